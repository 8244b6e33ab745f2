-- What is known of the lowest bits of a number, and one bit more. No public call is stated by these words.
use Rattle.std.specs.Prelude.{ℕ, ◌+◌, ◌%◌, ◌^◌, ◌==◌, ◌&&◌, ◌||◌, nat_le, zero, suc, Bool, true, false, List, if◌then◌else◌}
use Rattle.std.specs.Bool.{beq}
use Rattle.std.specs.Int.{bit_at}
use Rattle.bit_patterns.specs.Patterns.{within}
use Rattle.circuit.specs.Value.{value_at}
use Rattle.decision_diagram.specs.declared.numbers.Bounded.{Bounded}
use Rattle.decision_diagram.specs.Table.{Table, HasValue, IsOf, LooksFrom, value_in}
use Rattle.decision_diagram.specs.Tests.{number_of}

-- a diagram that looks at bits behind this one alone
abbrev pub IsBehind : Table → ℕ → ℕ → Type 0
IsBehind table bit d = IsOf table d × LooksFrom table (bit + 1) d

-- so many bits from this one on are those of the value, the lowest of it last, wherever the wildcard has a 0
abbrev pub agree_from : List Bool → ℕ → ℕ → ℕ → ℕ → Bool
agree_from bits first zero number wildcard = true
agree_from bits first (suc count) number wildcard =
    ((bit_at wildcard count == 1) || beq (value_at bits first) (bit_at number count == 1)) && agree_from bits (first + 1) count number wildcard

-- a diagram that looks at no bit before this one, with the value of an older one where a test holds, and false elsewhere
pub record IsTested (old new : Table) (first : ℕ) (test : List Bool → Bool) (rest d : ℕ) : Type 0 where
  pub has_value : HasValue new (λ bits. test bits && value_in old rest bits) d
  pub from : LooksFrom new first d

-- the three diagrams over so many bits, given as many of the lowest ones of the ends
pub record AreBounded (old new : Table) (first count low high rest : ℕ) (bounded : Bounded) : Type 0 where
  pub above : IsTested old new first (λ bits. nat_le (low % 2 ^ count) (number_of bits first count)) rest bounded.above
  pub below : IsTested old new first (λ bits. nat_le (number_of bits first count) (high % 2 ^ count)) rest bounded.below
  pub both : IsTested old new first (λ bits. within (low % 2 ^ count) (high % 2 ^ count) (number_of bits first count)) rest bounded.both

-- a test with one bit more, from the digits of the ends, the bit, and the tests without it
abbrev pub above_by : Bool → Bool → Bool → Bool → Bool
above_by low bit above rest = if low then (if bit then above else false) else (if bit then rest else above)

abbrev pub below_by : Bool → Bool → Bool → Bool → Bool
below_by high bit below rest = if high then (if bit then below else rest) else (if bit then false else below)

abbrev pub both_by : Bool → Bool → Bool → Bool → Bool → Bool → Bool
both_by low high bit above below both =
    if low
    then (if high then (if bit then both else false) else false)
    else (if high then (if bit then below else above) else (if bit then false else both))

-- the three with one bit more
pub record AreWidened (old new : Table) (bit : ℕ) (low high : Bool) (rest : ℕ) (bounded wider : Bounded) : Type 0 where
  pub above : HasValue new (λ bits. above_by low (value_at bits bit) (value_in old bounded.above bits) (value_in old rest bits)) wider.above
  pub below : HasValue new (λ bits. below_by high (value_at bits bit) (value_in old bounded.below bits) (value_in old rest bits)) wider.below
  pub both : HasValue new (λ bits. both_by low high (value_at bits bit) (value_in old bounded.above bits) (value_in old bounded.below bits) (value_in old bounded.both bits)) wider.both
  pub above_from : LooksFrom new bit wider.above
  pub below_from : LooksFrom new bit wider.below
  pub both_from : LooksFrom new bit wider.both

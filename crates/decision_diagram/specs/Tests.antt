-- Numbers that stand in bits.
use Rattle.std.specs.Prelude.{ℕ, ◌+◌, ◌^◌, zero, suc, Bool, List, if◌then◌else◌}
use Rattle.circuit.specs.Value.{value_at}

-- the number of so many bits from this one on, the first the heaviest
abbrev pub number_of : List Bool → ℕ → ℕ → ℕ
number_of bits first zero = 0
number_of bits first (suc width) = (if value_at bits first then 2 ^ width else 0) + number_of bits (first + 1) width

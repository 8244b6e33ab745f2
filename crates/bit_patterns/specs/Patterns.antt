-- Patterns of numbers: a value with a wildcard, and a range.
use Rattle.std.specs.Prelude.{ℕ, Bool, ◌==◌, ◌&&◌, nat_le, bit_or, bit_xor}

-- the number differs from the value only in bits that are 1 in the wildcard; `wildcard_bits` says it bit by bit
abbrev pub agrees : ℕ → ℕ → ℕ → Bool
agrees number value wildcard = bit_or (bit_xor number value) wildcard == wildcard

-- the number is from the first to the second, both included
abbrev pub within : ℕ → ℕ → ℕ → Bool
within low high number = nat_le low number && nat_le number high

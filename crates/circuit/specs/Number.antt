-- Bits and the number that they stand for.
use Rattle.std.specs.Prelude.{ℕ, ◌+◌, ◌^◌, Bool, List, [], ◌∷◌, length, if◌then◌else◌}

-- the number of the bits, the first the heaviest
abbrev pub number : List Bool → ℕ
number [] = 0
number (bit ∷ bits) = (if bit then 2 ^ length bits else 0) + number bits

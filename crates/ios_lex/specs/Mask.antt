-- Masks of networks.
use Rattle.std.specs.Prelude.{◌≡◌, ℕ, ◌+◌, ◌-◌, ◌^◌, ◌≤◌}

-- a mask of 32 bits that is so many ones, and then zeros: what it leaves of 2 ^ 32 is 2 to the number of the zeros
pub record IsPrefixMask (mask ones : ℕ) : Type 0 where
  pub few : ones ≤ 32
  pub value : mask + 2 ^ (32 - ones) ≡ 2 ^ 32

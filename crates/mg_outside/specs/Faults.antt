-- Counts of 64 bits that never fall.
use Rattle.std.specs.Prelude.{ℕ, zero, suc, ◌≡◌, ◌+◌, ◌-◌, ◌^◌, ◌≤◌, min}

-- the count has risen, or stands at its end
abbrev pub Rose : ℕ → ℕ → Type 0
Rose before now = min (before + 1) (2 ^ 64 - 1) ≤ now

-- the count, one higher where it can be
abbrev pub one_more : ℕ → ℕ
one_more count = min (count + 1) (2 ^ 64 - 1)

-- the count went up so many times
abbrev pub Counted : ℕ → ℕ → ℕ → Type 0
Counted zero before now = now ≡ before
Counted (suc times) before now = Counted times (one_more before) now

-- Masks of ones and then zeros.
use Rattle.std.proofs.Common.{◌≡◌, ◌⊎◌, inl, inr, ℕ, suc, ◌+◌, ◌-◌, ◌*◌, ◌^◌, ◌<◌, ◌≤◌, sym, arith}
use Rattle.std.proofs.lemmas.Nat.{pow_below}
use Rattle.std.proofs.Math.Pow.{pow_mono}
use Rattle.std.proofs.Math.Nat.{pow-succ'}
use Rattle.std.proofs.lemmas.Bool.{cases_lt, cases_order}
use Rattle.ios_lex.specs.Mask.{IsPrefixMask}

-- a power of two up to 2 ^ 32 has 32 zeros at most
pub few_zeros : (zeros : ℕ) → 2 ^ zeros ≤ 2 ^ 32 → zeros ≤ 32
few_zeros zeros small = by (cases_lt 32 zeros)
  where
    by : (32 < zeros) ⊎ (zeros ≤ 32) → zeros ≤ 32
    by (inl more) = absurd (omega (arith, pow_below 32 zeros more))
    by (inr few) = few

-- a power of two is between no other and its double
same_power : (i j : ℕ) → 2 ^ i ≤ 2 ^ j → 2 ^ j < 2 * 2 ^ i → j ≡ i
same_power i j above below = by (cases_order i j)
  where
    by : (i ≡ j) ⊎ ((i < j) ⊎ (j < i)) → j ≡ i
    by (inl same) = sym same
    by (inr (inl less)) = absurd (omega (arith, pow_mono {i = suc i} {j = j} (omega arith), pow-succ' 2 i))
    by (inr (inr more)) = absurd (omega (arith, pow_below j i more))

-- a mask that leaves a power of two is a prefix
pub mask_of_zeros : (mask zeros : ℕ) → zeros ≤ 32 → mask + 2 ^ zeros ≡ 2 ^ 32 → IsPrefixMask mask (32 - zeros)
mask_of_zeros mask zeros few value =
    let back : 32 - (32 - zeros) ≡ zeros = omega (arith, few) in
    record { few = omega arith; value = rw back value }

-- the size of what a prefix mask leaves is the power of two at or below it
pub zeros_of_mask : (mask zeros n : ℕ) → IsPrefixMask mask n → 2 ^ zeros ≤ 2 ^ 32 - mask → 2 ^ 32 - mask < 2 * 2 ^ zeros → mask + 2 ^ zeros ≡ 2 ^ 32
zeros_of_mask mask zeros n prefix above below =
    let same = same_power zeros (32 - n) (omega (arith, prefix.value)) (omega (arith, prefix.value)) in
    rw (← same) prefix.value

-- a mask has one length
pub prefix_is_one : (mask m n : ℕ) → IsPrefixMask mask m → IsPrefixMask mask n → m ≡ n
prefix_is_one mask m n p q = by (cases_order m n)
  where
    no_less : (low high : ℕ) → IsPrefixMask mask low → IsPrefixMask mask high → low < high → ⊥
    no_less low high p q less = omega (arith, pow_below (32 - high) (32 - low) (omega (arith, p.few, q.few, less)), p.value, q.value)

    by : (m ≡ n) ⊎ ((m < n) ⊎ (n < m)) → m ≡ n
    by (inl same) = same
    by (inr (inl less)) = absurd (no_less m n p q less)
    by (inr (inr more)) = absurd (no_less n m q p more)

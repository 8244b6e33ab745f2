-- Which numbers two patterns have in common: those that show that they have none.
use Rattle.std.proofs.Common.{◌≡◌, ℕ, zero, suc, ◌+◌, ◌-◌, ◌<◌, ◌≤◌, ◌⊎◌, inl, inr, max, Bool, true, false, not, nat_le, bit_or, refl, sym, ap, ◌∙◌, arith}
use Rattle.std.specs.Int.{bit_at}
use Rattle.std.specs.Int.Bits.{or_add_and}
use Rattle.std.proofs.lemmas.Bool.{and_parts, false≢true, leb-true}
use Rattle.std.proofs.lemmas.Nat.{le_or_l}
use Rattle.std.proofs.lemmas.Nat.Bits.{bit_at-lt, bit_at_or, same_from_bits}
use Rattle.bit_patterns.specs.Patterns.{agrees, within}
use Rattle.bit_patterns.proofs.BitTests.{wildcard_by_bits}

is_false : (b : Bool) → (b ≡ true → ⊥) → b ≡ false
is_false true never = absurd (never refl)
is_false false never = refl

pub not_true : (b : Bool) → not b ≡ true → b ≡ false
not_true true is = absurd (false≢true is)
not_true false is = refl

neither_one : (w u : ℕ) → max w u ≡ 0 → (w ≡ 0) × (u ≡ 0)
neither_one w u none = (omega arith, omega arith)

-- two values with which one number agrees are the same outside both wildcards
agree_outside : (x a w v u : ℕ) → agrees x a w ≡ true → agrees x v u ≡ true → agrees a v (bit_or w u) ≡ true
agree_outside x a w v u first second = (wildcard_by_bits a v (bit_or w u)).1 same
  where
    same : (place : ℕ) → bit_at (bit_or w u) place ≡ 0 → bit_at a place ≡ bit_at v place
    same place none =
        let zeros = neither_one (bit_at w place) (bit_at u place) (sym (bit_at_or w u place) ∙ none) in
        sym ((wildcard_by_bits x a w).0 first place zeros.0) ∙ (wildcard_by_bits x v u).0 second place zeros.1

-- where two values differ outside both wildcards, no number agrees with both
pub apart : (a w value wildcard : ℕ) → agrees a value (bit_or w wildcard) ≡ false → (x : ℕ) → agrees x value wildcard ≡ true → agrees x a w ≡ false
apart a w value wildcard differ x is = is_false (agrees x a w) (λ both. false≢true (sym differ ∙ agree_outside x a w value wildcard both is))

-- with the bits of a wildcard set, the numbers that agree are one
same_above : (x a w : ℕ) → agrees x a w ≡ true → bit_or x w ≡ bit_or a w
same_above x a w is = same_from_bits (bit_or x w) (bit_or a w) (λ place.
    bit_at_or x w place
    ∙ same_bit (bit_at x place) (bit_at a place) (bit_at w place) (bit_at-lt x place) (bit_at-lt a place) (bit_at-lt w place) ((wildcard_by_bits x a w).0 is place)
    ∙ sym (bit_at_or a w place))
  where
    same_bit : (b c w : ℕ) → b < 2 → c < 2 → w < 2 → (w ≡ 0 → b ≡ c) → max b w ≡ max c w
    same_bit b c zero b_bit c_bit w_bit same = ap (λ n. max n 0) (same refl)
    same_bit b c (suc w) b_bit c_bit w_bit same = omega arith

-- a number that agrees is not above the value with the bits of the wildcard set, nor below it by more than the wildcard
least_and_greatest : (x a w : ℕ) → agrees x a w ≡ true → (x ≤ bit_or a w) × (bit_or a w ≤ x + w)
least_and_greatest x a w is =
    let same = same_above x a w is in
    let above = le_or_l x w in
    let below = or_add_and x w in
    (omega (arith, same, above), omega (arith, same, below))

-- where all numbers that agree are on one side of a range, none is in it
pub outside : (a w low high : ℕ) → (bit_or a w < low) ⊎ (high < bit_or a w - w) → (x : ℕ) → within low high x ≡ true → agrees x a w ≡ false
outside a w low high side x is = is_false (agrees x a w) (λ agree. no (least_and_greatest x a w agree) side)
  where
    ends : (low ≤ x) × (x ≤ high)
    ends = let parts = and_parts (nat_le low x) (nat_le x high) is in (leb-true low x parts.0, leb-true x high parts.1)

    no : (x ≤ bit_or a w) × (bit_or a w ≤ x + w) → (bit_or a w < low) ⊎ (high < bit_or a w - w) → ⊥
    no between (inl past) = omega (arith, between.0, ends.0)
    no between (inr past) = omega (arith, between.1, ends.1)

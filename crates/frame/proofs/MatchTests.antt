-- The tests of an entry, as wildcard tests.
use Rattle.std.proofs.Common.{◌≡◌, ℕ, ◌<◌, ◌≤◌, ◌==◌, ◌&&◌, nat_le, not, true, false, refl, sym, ap, ◌∙◌, ◌⊎◌, inl, inr, arith, bit_and, bit_or, bit_xor, ◌^◌, lit<}
use Rattle.std.specs.Int.Bits.{or_zero_r, xor_zero_l, xor_zero_r, xor_self, xor_assoc}
use Rattle.std.proofs.lemmas.Bool.{agree_below_at, cases_order, eq-eqb, ne_eqb, le-leb, lt-leb, and_left, and_right, and_from}
use Rattle.std.proofs.lemmas.Bool.Decides.{eqb_tells}
use Rattle.std.proofs.lemmas.Nat.{le_or_r, or_of_32, xor_of_32}
use Rattle.bit_patterns.specs.Patterns.{agrees}

xor_zero : (x v : ℕ) → bit_xor x v ≡ 0 → x ≡ v
xor_zero x v none =
    sym (xor_zero_r x) ∙ ap (bit_xor x) (sym (xor_self v)) ∙ sym (xor_assoc x v v) ∙ ap (λ n. bit_xor n v) none ∙ xor_zero_l v

-- where every bit counts, the numbers are the same
pub agrees_exactly : (x v : ℕ) → agrees x v 0 ≡ (x == v)
agrees_exactly x v = ap (λ n. n == 0) (or_zero_r (bit_xor x v)) ∙ tells (eqb_tells x v)
  where
    tells : ((x == v) ≡ true) × (x ≡ v) ⊎ ((x == v) ≡ false) × (x ≡ v → ⊥) → (bit_xor x v == 0) ≡ (x == v)
    tells (inl same) = eq-eqb (bit_xor x v) 0 (ap (λ n. bit_xor n v) same.1 ∙ xor_self v) ∙ sym same.0
    tells (inr other) = ne_eqb (bit_xor x v) 0 (λ none. other.1 (xor_zero x v none)) ∙ sym other.0

-- a range of one number
pub agrees_within : (x n : ℕ) → agrees x n 0 ≡ (nat_le n x && nat_le x n)
agrees_within x n = agrees_exactly x n ∙ ordered x n (cases_order x n)
  where
    ordered : (x n : ℕ) → (x ≡ n) ⊎ ((x < n) ⊎ (n < x)) → (x == n) ≡ (nat_le n x && nat_le x n)
    ordered x n (inl same) = eq-eqb x n same ∙ sym (and_from (nat_le n x) (nat_le x n) (le-leb n x (omega arith)) (le-leb x n (omega arith)))
    ordered x n (inr (inl less)) = ne_eqb x n (λ same. absurd (omega arith)) ∙ sym (and_left (nat_le n x) (nat_le x n) (lt-leb n x less))
    ordered x n (inr (inr more)) = ne_eqb x n (λ same. absurd (omega arith)) ∙ sym (and_right (nat_le n x) (nat_le x n) (lt-leb x n more))

-- where no bit counts, all numbers of 32 bits agree
pub agrees_anyhow : (x v : ℕ) → x < 2 ^ 32 → v < 2 ^ 32 → agrees x v 4294967295 ≡ true
agrees_anyhow x v small also =
    let most : bit_or (bit_xor x v) 4294967295 < 2 ^ 32 = or_of_32 (bit_xor x v) 4294967295 (xor_of_32 x v small also) (lit< tt) in
    let least : 4294967295 ≤ bit_or (bit_xor x v) 4294967295 = le_or_r (bit_xor x v) 4294967295 in
    eq-eqb (bit_or (bit_xor x v) 4294967295) 4294967295 (omega (arith, most, least))

-- of the six flags, 43 leaves ACK, 16, and RST, 4
pub established_flags : (flags : ℕ) → flags < 64 → not (agrees flags 0 43) ≡ not (bit_and flags 20 == 0)
established_flags flags small = agree_below_at (λ f. not (agrees f 0 43)) (λ f. not (bit_and f 20 == 0)) 64 flags refl small

-- Tests of numbers, bit by bit.
use Rattle.std.proofs.Common.{◌≡◌, ◌↔◌, ◌⊎◌, inl, inr, ℕ, ◌<◌, ◌≤◌, ◌==◌, min, suc, zero, true, false, not, IsTrue, bit_and, refl, sym, ap, ◌∙◌, arith}
use Rattle.std.specs.Int.{bit_at}
use Rattle.std.proofs.lemmas.Bool.{cases_lt, false_from_ne_true, not_from_false}
use Rattle.std.proofs.lemmas.Bool.Decides.{Decides-eqb}
use Rattle.std.proofs.lemmas.Nat.Bits.{bit_at_and, bit_at-lt, bit_at-zero, bit_at_above, same_from_bits}
use Rattle.ios_acl.specs.Matching.{matches_established}

-- 20 has two bits
bit_of_twenty : (place : ℕ) → (place ≡ 2) ⊎ ((place ≡ 4) ⊎ (bit_at 20 place ≡ 0))
bit_of_twenty zero = inr (inr refl)
bit_of_twenty (suc zero) = inr (inr refl)
bit_of_twenty (suc (suc zero)) = inl refl
bit_of_twenty (suc (suc (suc zero))) = inr (inr refl)
bit_of_twenty (suc (suc (suc (suc zero)))) = inr (inl refl)
bit_of_twenty (suc (suc (suc (suc (suc place))))) = inr (inr (bit_at_above 20 5 (suc (suc (suc (suc (suc place))))) (omega arith) (omega arith)))

none_set : (flags place : ℕ) → bit_at flags 2 ≡ 0 → bit_at flags 4 ≡ 0 → (place ≡ 2) ⊎ ((place ≡ 4) ⊎ (bit_at 20 place ≡ 0))
    → min (bit_at flags place) (bit_at 20 place) ≡ 0
none_set flags place no_reset no_ack (inl is) = let none : bit_at flags place ≡ 0 = ap (bit_at flags) is ∙ no_reset in omega arith
none_set flags place no_reset no_ack (inr (inl is)) = let none : bit_at flags place ≡ 0 = ap (bit_at flags) is ∙ no_ack in omega arith
none_set flags place no_reset no_ack (inr (inr none)) = omega arith

-- of an established connection one of the flags RST and ACK is set, whose bits are those of 2 ^ 2 and 2 ^ 4
pub established_by_bits : (flags : ℕ) → IsTrue (matches_established flags true) ↔ ((bit_at flags 2 ≡ 1) ⊎ (bit_at flags 4 ≡ 1))
established_by_bits flags = (λ some. by_reset some (cases_lt (bit_at flags 2) 1), back)
  where
    tested : ℕ
    tested = bit_and flags 20

    neither : IsTrue (matches_established flags true) → bit_at flags 2 ≡ 0 → bit_at flags 4 ≡ 0 → ⊥
    neither some no_reset no_ack =
        let zero : tested ≡ 0 = same_from_bits tested 0 (λ place. bit_at_and flags 20 place ∙ none_set flags place no_reset no_ack (bit_of_twenty place) ∙ sym (bit_at-zero place)) in
        let both : true ≡ false = sym some ∙ ap not ((Decides-eqb tested 0).1 zero) in
        cc

    by_ack : IsTrue (matches_established flags true) → bit_at flags 2 ≡ 0 → (bit_at flags 4 < 1) ⊎ (1 ≤ bit_at flags 4) → (bit_at flags 2 ≡ 1) ⊎ (bit_at flags 4 ≡ 1)
    by_ack some no_reset (inl no_ack) = absurd (neither some no_reset (omega arith))
    by_ack some no_reset (inr ack) = let bit = bit_at-lt flags 4 in inr (omega arith)

    by_reset : IsTrue (matches_established flags true) → (bit_at flags 2 < 1) ⊎ (1 ≤ bit_at flags 2) → (bit_at flags 2 ≡ 1) ⊎ (bit_at flags 4 ≡ 1)
    by_reset some (inl no_reset) = by_ack some (omega arith) (cases_lt (bit_at flags 4) 1)
    by_reset some (inr reset) = let bit = bit_at-lt flags 2 in inl (omega arith)

    set_at : (place : ℕ) → bit_at 20 place ≡ 1 → bit_at flags place ≡ 1 → IsTrue (matches_established flags true)
    set_at place is set = not_from_false (tested == 0) (false_from_ne_true (tested == 0) none)
      where
        none : (tested == 0) ≡ true → ⊥
        none is_zero =
            let bit : bit_at tested place ≡ 0 = ap (λ n. bit_at n place) ((Decides-eqb tested 0).0 is_zero) ∙ bit_at-zero place in
            let both = bit_at_and flags 20 place in
            omega arith

    back : (bit_at flags 2 ≡ 1) ⊎ (bit_at flags 4 ≡ 1) → IsTrue (matches_established flags true)
    back (inl reset) = set_at 2 refl reset
    back (inr ack) = set_at 4 refl ack

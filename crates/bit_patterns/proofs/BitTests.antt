-- Wildcards, bit by bit.
use Rattle.std.proofs.Common.{◌≡◌, ◌↔◌, ℕ, ◌+◌, ◌%◌, ◌<◌, max, suc, zero, IsTrue, bit_or, bit_xor, refl, sym, ap, ◌∙◌, arith}
use Rattle.std.specs.Int.{bit_at}
use Rattle.std.proofs.lemmas.Bool.Decides.{Decides-eqb}
use Rattle.std.proofs.lemmas.Nat.Bits.{bit_at_or, bit_at_xor, bit_at-lt, same_from_bits}
use Rattle.bit_patterns.specs.Patterns.{agrees}

-- a bit that is masked by nothing is as it was
same_bit : (b c w : ℕ) → b < 2 → c < 2 → w ≡ 0 → max ((b + c) % 2) w ≡ w → b ≡ c
same_bit b c w b_bit c_bit none is = omega arith

-- where two bits are the same or a wildcard stands over them, their difference adds nothing to it
no_more : (b c w : ℕ) → b < 2 → w < 2 → (w ≡ 0 → b ≡ c) → max ((b + c) % 2) w ≡ w
no_more b c zero b_bit w_bit same = let is = same refl in omega arith
no_more b c (suc w) b_bit w_bit same = omega arith

bit_of_wildcard : (number value wildcard place : ℕ) → bit_at (bit_or (bit_xor number value) wildcard) place ≡ max ((bit_at number place + bit_at value place) % 2) (bit_at wildcard place)
bit_of_wildcard number value wildcard place =
    bit_at_or (bit_xor number value) wildcard place ∙ ap (λ n. max n (bit_at wildcard place)) (bit_at_xor number value place)

-- a wildcard leaves out the bits that are 1 in it
pub wildcard_by_bits : (number value wildcard : ℕ)
    → IsTrue (agrees number value wildcard) ↔ ((place : ℕ) → bit_at wildcard place ≡ 0 → bit_at number place ≡ bit_at value place)
wildcard_by_bits number value wildcard = (forth, back)
  where
    tested : ℕ
    tested = bit_or (bit_xor number value) wildcard

    forth : IsTrue (agrees number value wildcard) → (place : ℕ) → bit_at wildcard place ≡ 0 → bit_at number place ≡ bit_at value place
    forth same_number place none =
        let same : tested ≡ wildcard = (Decides-eqb tested wildcard).0 same_number in
        let bits = sym (bit_of_wildcard number value wildcard place) ∙ ap (λ n. bit_at n place) same in
        same_bit (bit_at number place) (bit_at value place) (bit_at wildcard place) (bit_at-lt number place) (bit_at-lt value place) none bits

    back : ((place : ℕ) → bit_at wildcard place ≡ 0 → bit_at number place ≡ bit_at value place) → IsTrue (agrees number value wildcard)
    back same = (Decides-eqb tested wildcard).1 (same_from_bits tested wildcard unchanged)
      where
        unchanged : (place : ℕ) → bit_at tested place ≡ bit_at wildcard place
        unchanged place =
            bit_of_wildcard number value wildcard place
            ∙ no_more (bit_at number place) (bit_at value place) (bit_at wildcard place) (bit_at-lt number place) (bit_at-lt wildcard place) (same place)

-- A number lies between two ends by its bits and their digits, one after the other.
use Rattle.std.proofs.Common.{◌≡◌, ℕ, ◌+◌, ◌*◌, ◌%◌, ◌^◌, ◌<◌, ◌≤◌, ◌==◌, ◌&&◌, nat_le, zero, suc, min, Bool, true, false, List, if◌then◌else◌, sym, ap, ap₂, subst, ◌∙◌, mul_comm, mod-eq_of_lt, arith}
use Rattle.std.specs.Int.{bit_at}
use Rattle.std.proofs.Math.Arith.{mod-mul}
use Rattle.std.proofs.Math.Nat.{pow-suc, mod-lt}
use Rattle.std.proofs.lemmas.Nat.{pow_pos}
use Rattle.std.proofs.lemmas.Nat.Bits.{bit_at-lt}
use Rattle.std.proofs.lemmas.Bool.Decides.{nat_tests}
use Rattle.bit_patterns.specs.Patterns.{within}
use Rattle.circuit.specs.Value.{value_at}
use Rattle.decision_diagram.specs.declared.numbers.Bounded.{Bounded}
use Rattle.decision_diagram.specs.Table.{Table, Extends, HasValue, IsOf, value_in}
use Rattle.decision_diagram.specs.Tests.{number_of}
use Rattle.decision_diagram.proofs.Extending.{value_stays}
use Rattle.decision_diagram.specs.Inside.Numbers.{AreBounded, AreWidened, above_by, below_by, both_by}

bit_number_lt : (b : Bool) (p n : ℕ) → n < p → (if b then p else 0) + n < p * 2
bit_number_lt true p n small = omega (arith, small)
bit_number_lt false p n small = omega (arith, small)

pub number_of-lt : (bits : List Bool) (first width : ℕ) → number_of bits first width < 2 ^ width
number_of-lt bits first zero = omega arith
number_of-lt bits first (suc width) =
    omega (arith, pow-suc 2 width, bit_number_lt (value_at bits first) (2 ^ width) (number_of bits (first + 1) width) (number_of-lt bits (first + 1) width))

-- the lowest digits, the highest of them apart
lowest_more : (n k : ℕ) → n % 2 ^ suc k ≡ bit_at n k * 2 ^ k + n % 2 ^ k
lowest_more n k = ap (λ m. n % m) (pow-suc 2 k ∙ mul_comm (2 ^ k) 2) ∙ mod-mul n {m = 2} {c = 2 ^ k} (omega arith) (pow_pos k)

above_more : (d p low n : ℕ) (b rest : Bool) → d < 2 → low < p → n < p
    → above_by (d == 1) b (nat_le low n && rest) rest ≡ (nat_le (d * p + low) ((if b then p else 0) + n) && rest)
above_more zero p low n true rest small l r = grind (arith, nat_tests)
above_more zero p low n false rest small l r = grind (arith, nat_tests)
above_more (suc zero) p low n true rest small l r = grind (arith, nat_tests)
above_more (suc zero) p low n false rest small l r = grind (arith, nat_tests)
above_more (suc (suc d)) p low n b rest small l r = absurd (omega arith)

below_more : (d p high n : ℕ) (b rest : Bool) → d < 2 → high < p → n < p
    → below_by (d == 1) b (nat_le n high && rest) rest ≡ (nat_le ((if b then p else 0) + n) (d * p + high) && rest)
below_more zero p high n true rest small l r = grind (arith, nat_tests)
below_more zero p high n false rest small l r = grind (arith, nat_tests)
below_more (suc zero) p high n true rest small l r = grind (arith, nat_tests)
below_more (suc zero) p high n false rest small l r = grind (arith, nat_tests)
below_more (suc (suc d)) p high n b rest small l r = absurd (omega arith)

both_more : (d e p low high n : ℕ) (b rest : Bool) → d < 2 → e < 2 → low < p → high < p → n < p
    → both_by (d == 1) (e == 1) b (nat_le low n && rest) (nat_le n high && rest) ((nat_le low n && nat_le n high) && rest)
    ≡ ((nat_le (d * p + low) ((if b then p else 0) + n) && nat_le ((if b then p else 0) + n) (e * p + high)) && rest)
both_more zero zero p low high n true rest _ _ l h r = grind (arith, nat_tests)
both_more zero zero p low high n false rest _ _ l h r = grind (arith, nat_tests)
both_more zero (suc zero) p low high n true rest _ _ l h r = grind (arith, nat_tests)
both_more zero (suc zero) p low high n false rest _ _ l h r = grind (arith, nat_tests)
both_more (suc zero) zero p low high n true rest _ _ l h r = grind (arith, nat_tests)
both_more (suc zero) zero p low high n false rest _ _ l h r = grind (arith, nat_tests)
both_more (suc zero) (suc zero) p low high n true rest _ _ l h r = grind (arith, nat_tests)
both_more (suc zero) (suc zero) p low high n false rest _ _ l h r = grind (arith, nat_tests)
both_more (suc (suc d)) e p low high n b rest small _ l h r = absurd (omega arith)
both_more d (suc (suc e)) p low high n b rest _ small l h r = absurd (omega arith)

bounded_step : (t0 t1 t2 : Table) (first count low high rest : ℕ) (bounded wider : Bounded) → Extends t0 t1 → IsOf t0 rest
    → AreBounded t0 t1 (first + 1) count low high rest bounded
    → AreWidened t1 t2 first (bit_at low count == 1) (bit_at high count == 1) rest bounded wider
    → AreBounded t0 t2 first (suc count) low high rest wider
bounded_step t0 t1 t2 first count low high rest bounded wider grown within_t0 so_far more =
    let p : ℕ = 2 ^ count in
    let l : ℕ = low % p in
    let h : ℕ = high % p in
    let d : ℕ = bit_at low count in
    let e : ℕ = bit_at high count in
    let small_l : low % 2 ^ count < 2 ^ count = mod-lt low (pow_pos count) in
    let small_h : high % 2 ^ count < 2 ^ count = mod-lt high (pow_pos count) in
    let r : List Bool → Bool = λ bits. value_in t0 rest bits in
    let n : List Bool → ℕ = λ bits. number_of bits (first + 1) count in
    let b : List Bool → Bool = λ bits. value_at bits first in
    let whole : List Bool → ℕ = λ bits. (if value_at bits first then p else 0) + number_of bits (first + 1) count in
    let kept : (bits : List Bool) → value_in t1 rest bits ≡ value_in t0 rest bits = λ bits. value_stays t0 t1 rest bits grown within_t0 in
    record {
      above = record {
        has_value = record {
          within = more.above.within;
          value = λ bits.
              more.above.value bits
              ∙ ap₂ (λ x y. above_by (d == 1) (b bits) x y) (so_far.above.has_value.value bits) (kept bits)
              ∙ above_more d p l (n bits) (b bits) (r bits) (bit_at-lt low count) small_l (number_of-lt bits (first + 1) count)
              ∙ ap (λ k. nat_le k (whole bits) && r bits) (sym (lowest_more low count));
        };
        from = more.above_from;
      };
      below = record {
        has_value = record {
          within = more.below.within;
          value = λ bits.
              more.below.value bits
              ∙ ap₂ (λ x y. below_by (e == 1) (b bits) x y) (so_far.below.has_value.value bits) (kept bits)
              ∙ below_more e p h (n bits) (b bits) (r bits) (bit_at-lt high count) small_h (number_of-lt bits (first + 1) count)
              ∙ ap (λ k. nat_le (whole bits) k && r bits) (sym (lowest_more high count));
        };
        from = more.below_from;
      };
      both = record {
        has_value = record {
          within = more.both.within;
          value = λ bits.
              more.both.value bits
              ∙ ap₂ (λ x y. both_by (d == 1) (e == 1) (b bits) x y (value_in t1 bounded.both bits)) (so_far.above.has_value.value bits) (so_far.below.has_value.value bits)
              ∙ ap (λ x. both_by (d == 1) (e == 1) (b bits) (nat_le l (n bits) && r bits) (nat_le (n bits) h && r bits) x) (so_far.both.has_value.value bits)
              ∙ both_more d e p l h (n bits) (b bits) (r bits) (bit_at-lt low count) (bit_at-lt high count) small_l small_h (number_of-lt bits (first + 1) count)
              ∙ ap₂ (λ x y. (nat_le x (whole bits) && nat_le (whole bits) y) && r bits) (sym (lowest_more low count)) (sym (lowest_more high count));
        };
        from = more.both_from;
      };
    }

-- the three with one bit more in front
pub bounded_more : (t0 t1 t2 : Table) (first bit before count next low high rest : ℕ) (low_digit high_digit : Bool) (bounded wider : Bounded)
    → next ≡ suc count → before ≡ first + 1 → bit ≡ first → low_digit ≡ (bit_at low count == 1) → high_digit ≡ (bit_at high count == 1)
    → Extends t0 t1 → IsOf t0 rest → AreBounded t0 t1 before count low high rest bounded
    → AreWidened t1 t2 bit low_digit high_digit rest bounded wider → AreBounded t0 t2 first next low high rest wider
bounded_more t0 t1 t2 first bit before count next low high rest low_digit high_digit bounded wider is_next is_before is_bit is_low is_high grown within_t0 so_far more =
    let at : AreWidened t1 t2 first low_digit high_digit rest bounded wider = subst (λ k. AreWidened t1 t2 k low_digit high_digit rest bounded wider) is_bit more in
    let by_low : AreWidened t1 t2 first (bit_at low count == 1) high_digit rest bounded wider = subst (λ t. AreWidened t1 t2 first t high_digit rest bounded wider) is_low at in
    let by_both : AreWidened t1 t2 first (bit_at low count == 1) (bit_at high count == 1) rest bounded wider = subst (λ t. AreWidened t1 t2 first (bit_at low count == 1) t rest bounded wider) is_high by_low in
    subst (λ k. AreBounded t0 t2 first k low high rest wider) (sym is_next)
    (bounded_step t0 t1 t2 first count low high rest bounded wider grown within_t0 (subst (λ k. AreBounded t0 t1 k count low high rest bounded) is_before so_far) by_both)

-- a high end above all numbers of the bits may be cut to the greatest
cut_same : (low high most n : ℕ) (r : Bool) → n ≤ most → (within low (min high most) n && r) ≡ (within low high n && r)
cut_same low high most n r small = grind (arith, nat_tests)

pub all_bounded : (t0 t1 : Table) (first bit width count low high most cut rest : ℕ) (bounded : Bounded) → count ≡ width → bit ≡ first
    → most + 1 ≡ 2 ^ width → low ≤ most → cut ≡ min high most → AreBounded t0 t1 bit count low cut rest bounded
    → HasValue t1 (λ bits. within low high (number_of bits first width) && value_in t0 rest bits) bounded.both
all_bounded t0 t1 first bit width count low high most cut rest bounded is_count is_bit is_most inside is_cut so_far =
    let at : AreBounded t0 t1 first count low cut rest bounded = subst (λ k. AreBounded t0 t1 k count low cut rest bounded) is_bit so_far in
    let over : AreBounded t0 t1 first width low cut rest bounded = subst (λ k. AreBounded t0 t1 first k low cut rest bounded) is_count at in
    let all_low : low % 2 ^ width ≡ low = mod-eq_of_lt (omega (arith, is_most, inside)) in
    let all_high : cut % 2 ^ width ≡ cut = mod-eq_of_lt (omega (arith, is_most, is_cut)) in
    record {
      within = over.both.has_value.within;
      value = λ bits.
          let n : ℕ = number_of bits first width in
          let small : number_of bits first width < 2 ^ width = number_of-lt bits first width in
          over.both.has_value.value bits
          ∙ ap₂ (λ x y. within x y n && value_in t0 rest bits) all_low all_high
          ∙ ap (λ k. within low k n && value_in t0 rest bits) is_cut
          ∙ cut_same low high most n (value_in t0 rest bits) (omega (arith, small, is_most));
    }

-- no number of the bits reaches a low end past all of them
pub none_reaches : (low high most first width : ℕ) (bits : List Bool) (r : Bool) → most + 1 ≡ 2 ^ width → most < low → (within low high (number_of bits first width) && r) ≡ false
none_reaches low high most first width bits r is_most past =
    below_low low high (number_of bits first width) r (omega (arith, number_of-lt bits first width, is_most, past))
  where
    below_low : (low high n : ℕ) (r : Bool) → n < low → (within low high n && r) ≡ false
    below_low low high n r small = grind (arith, nat_tests)

-- A number agrees with a value where its bits do, one after the other.
use Rattle.std.proofs.Common.{◌≡◌, ℕ, ◌+◌, ◌*◌, ◌/◌, ◌^◌, ◌<◌, ◌==◌, ◌&&◌, ◌||◌, zero, suc, Bool, true, false, List, if◌then◌else◌, refl, sym, subst, ap, ap₂, ◌∙◌, arith}
use Rattle.std.specs.Bool.{beq}
use Rattle.std.specs.Int.{bit_at}
use Rattle.std.proofs.Math.Nat.{div-one, div-div-eq-div-mul, pow-suc}
use Rattle.std.proofs.lemmas.Nat.Bits.{bit_at-lt}
use Rattle.bit_patterns.specs.Patterns.{agrees}
use Rattle.circuit.specs.Value.{value_at}
use Rattle.circuit.proofs.Agree.{agrees_bit, digit, highest}
use Rattle.decision_diagram.specs.Tree.{Tree, leaf, value}
use Rattle.decision_diagram.specs.Table.{Table, HasValue, IsOf, LooksFrom, diagram, value_in}
use Rattle.decision_diagram.specs.Tests.{number_of}
use Rattle.decision_diagram.specs.Inside.Numbers.{IsTested, agree_from}

and_true : (t : Bool) → (t && true) ≡ t
and_true true = refl
and_true false = refl

and_apart : (a b c : Bool) → (a && (b && c)) ≡ ((a && b) && c)
and_apart true b c = refl
and_apart false b c = refl

bit_last : (above free rest b : Bool) (d : ℕ) → d < 2 → ((above && (free || (d == digit b))) && rest) ≡ (above && ((free || beq b (d == 1)) && rest))
bit_last false free rest b d small = refl
bit_last true free rest true zero small = refl
bit_last true free rest true (suc zero) small = refl
bit_last true free rest false zero small = refl
bit_last true free rest false (suc zero) small = refl
bit_last true free rest b (suc (suc d)) small = absurd (omega arith)

half_of : (v n : ℕ) → v / 2 ^ n / 2 ≡ v / 2 ^ suc n
half_of v n = div-div-eq-div-mul v (2 ^ n) 2 ∙ ap (λ k. v / k) (sym (pow-suc 2 n))

-- the digits above these bits are compared apart
agrees_apart : (bits : List Bool) (first width above v w : ℕ) → agrees (above * 2 ^ width + number_of bits first width) v w
    ≡ (agrees above (v / 2 ^ width) (w / 2 ^ width) && agree_from bits first width v w)
agrees_apart bits first zero above v w =
    let whole : above * 1 + 0 ≡ above = omega arith in
    ap (λ n. agrees n v w) whole
    ∙ sym (ap (λ n. agrees above v n) (div-one w))
    ∙ sym (ap (λ n. agrees above n (w / 1)) (div-one v))
    ∙ sym (and_true (agrees above (v / 1) (w / 1)))
agrees_apart bits first (suc n) above v w =
    let b : Bool = value_at bits first in
    let low : ℕ = number_of bits (first + 1) n in
    let rest : Bool = agree_from bits (first + 1) n v w in
    let test : Bool = (bit_at w n == 1) || (bit_at v n == digit b) in
    ap (λ k. agrees (above * k + ((if b then 2 ^ n else 0) + low)) v w) (pow-suc 2 n)
    ∙ ap (λ k. agrees k v w) (highest above (2 ^ n) low b)
    ∙ agrees_apart bits (first + 1) n (2 * above + digit b) v w
    ∙ ap (λ t. t && rest) (agrees_bit above (v / 2 ^ n) (w / 2 ^ n) b)
    ∙ ap (λ k. (agrees above k (w / 2 ^ n / 2) && test) && rest) (half_of v n)
    ∙ ap (λ k. (agrees above (v / 2 ^ suc n) k && test) && rest) (half_of w n)
    ∙ bit_last (agrees above (v / 2 ^ suc n) (w / 2 ^ suc n)) (bit_at w n == 1) rest b (bit_at v n) (bit_at-lt v n)

-- a number of these bits has zeros above them
pub agrees_by_bits : (bits : List Bool) (first width v w : ℕ) (above : Bool) → above ≡ agrees 0 (v / 2 ^ width) (w / 2 ^ width)
    → agrees (number_of bits first width) v w ≡ (above && agree_from bits first width v w)
agrees_by_bits bits first width v w above is =
    let whole : 0 * 2 ^ width + number_of bits first width ≡ number_of bits first width = omega arith in
    sym (ap (λ n. agrees n v w) whole)
    ∙ agrees_apart bits first width 0 v w
    ∙ ap (λ t. t && agree_from bits first width v w) (sym is)

pub all_tested : (t0 t1 : Table) (first bit width count v w rest d : ℕ) → count ≡ width → bit ≡ first → true ≡ agrees 0 (v / 2 ^ width) (w / 2 ^ width)
    → IsTested t0 t1 bit (λ bits. agree_from bits bit count v w) rest d
    → HasValue t1 (λ bits. agrees (number_of bits first width) v w && value_in t0 rest bits) d
all_tested t0 t1 first bit width count v w rest d is_count is_bit above so_far = record {
  within = so_far.has_value.within;
  value = λ bits.
      so_far.has_value.value bits
      ∙ ap₂ (λ k m. agree_from bits k m v w && value_in t0 rest bits) is_bit is_count
      ∙ ap (λ t. t && value_in t0 rest bits) (sym (agrees_by_bits bits first width v w true above));
}

-- the leaf of false has the value of a test that nothing meets
pub never_met : (table : Table) (d : ℕ) (test : List Bool → Bool) → IsOf table d → diagram table d ≡ leaf false → ((bits : List Bool) → test bits ≡ false) → HasValue table test d
never_met table d test within is none = record { within = within; value = λ bits. ap (λ (t : Tree). value t bits) is ∙ sym (none bits) }

-- a test with one bit more in front
pub tested_more : (t0 t1 t2 : Table) (first bit before count next v w rest d e : ℕ) (free wanted : Bool) → next ≡ suc count → before ≡ first + 1 → bit ≡ first
    → free ≡ (bit_at w count == 1) → wanted ≡ (bit_at v count == 1)
    → IsTested t0 t1 before (λ bits. agree_from bits before count v w) rest d
    → HasValue t2 (λ bits. (free || beq (value_at bits bit) wanted) && value_in t1 d bits) e → LooksFrom t2 bit e
    → IsTested t0 t2 first (λ bits. agree_from bits first next v w) rest e
tested_more t0 t1 t2 first bit before count next v w rest d e free wanted is_next is_before is_bit is_free is_wanted so_far more from = record {
  has_value = record {
    within = more.within;
    value = λ bits.
        let below : value_in t1 d bits ≡ (agree_from bits (first + 1) count v w && value_in t0 rest bits) =
        so_far.has_value.value bits ∙ ap (λ k. agree_from bits k count v w && value_in t0 rest bits) is_before in
        more.value bits
        ∙ ap (λ k. (free || beq (value_at bits k) wanted) && value_in t1 d bits) is_bit
        ∙ ap (λ t. (t || beq (value_at bits first) wanted) && value_in t1 d bits) is_free
        ∙ ap (λ t. ((bit_at w count == 1) || beq (value_at bits first) t) && value_in t1 d bits) is_wanted
        ∙ ap (λ t. ((bit_at w count == 1) || beq (value_at bits first) (bit_at v count == 1)) && t) below
        ∙ and_apart ((bit_at w count == 1) || beq (value_at bits first) (bit_at v count == 1)) (agree_from bits (first + 1) count v w) (value_in t0 rest bits)
        ∙ ap (λ k. agree_from bits first k v w && value_in t0 rest bits) (sym is_next);
  };
  from = subst (λ k. LooksFrom t2 k e) is_bit from;
}

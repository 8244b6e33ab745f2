-- Two ordered and reduced diagrams with the same value for all values of their bits are one.
use Rattle.std.proofs.Common.{◌≡◌, ℕ, ◌<◌, ◌+◌, Bool, true, false, List, replicate, set, cond, refl, sym, subst, ap, ap₂, ◌∙◌, inl, inr, arith}
use Rattle.std.proofs.lemmas.Bool.{cases_lt}
use Rattle.std.proofs.lemmas.List.{length-set, length-replicate, get_or-set_same, get_or-set_other}
use Rattle.circuit.specs.Value.{value_at}
use Rattle.decision_diagram.specs.Tree.{Tree, leaf, branch, value, IsReduced, SameValue}
use Rattle.decision_diagram.proofs.Extending.{reduced_earlier}

-- ---- a bit before all that a diagram looks at
unread_bit : (t : Tree) (first count place : ℕ) (bits : List Bool) (bit : Bool) → place < first → IsReduced first count t → value t (set bits place bit) ≡ value t bits
unread_bit (leaf constant) first count place bits bit before reduced = refl
unread_bit (branch looked low high) first count place bits bit before reduced =
    let other : value_at (set bits place bit) looked ≡ value_at bits looked = get_or-set_other bits place looked bit false (λ same. absurd (omega (arith, before, reduced.0, same))) in
    let lows = unread_bit low (looked + 1) count place bits bit (omega (arith, before, reduced.0)) reduced.3 in
    let highs = unread_bit high (looked + 1) count place bits bit (omega (arith, before, reduced.0)) reduced.4 in
    rw (other, lows, highs) refl

-- ---- what a diagram goes on with from a bit on
-- where the bit is as said, the whole has the value of a part that does not look at it
record GoesOn (count bit : ℕ) (choose : Bool) (whole part : Tree) : Type 0 where
  pub part_later : IsReduced (bit + 1) count part
  pub goes : (bits : List Bool) → value_at bits bit ≡ choose → value whole bits ≡ value part bits

-- two diagrams with the same value go on with parts that have the same value
same_parts : (count bit : ℕ) (choose : Bool) (a b c d : Tree) → bit < count → GoesOn count bit choose a c → GoesOn count bit choose b d → SameValue count a b → SameValue count c d
same_parts count bit choose a b c d within of_a of_b same bits long =
    let changed : List Bool = set bits bit choose in
    let is : value_at changed bit ≡ choose = get_or-set_same bits bit choose false (omega (arith, within, long)) in
    sym (unread_bit c (bit + 1) count bit bits choose (omega arith) of_a.part_later)
    ∙ sym (of_a.goes changed is)
    ∙ same changed (length-set bits bit choose ∙ long)
    ∙ of_b.goes changed is
    ∙ unread_bit d (bit + 1) count bit bits choose (omega arith) of_b.part_later

low_goes_on : (count bit : ℕ) (low high : Tree) → IsReduced (bit + 1) count low → GoesOn count bit false (branch bit low high) low
low_goes_on count bit low high later = record { part_later = later; goes = λ bits is. ap (λ t. cond t (value high bits) (value low bits)) is }

high_goes_on : (count bit : ℕ) (low high : Tree) → IsReduced (bit + 1) count high → GoesOn count bit true (branch bit low high) high
high_goes_on count bit low high later = record { part_later = later; goes = λ bits is. ap (λ t. cond t (value high bits) (value low bits)) is }

-- a diagram that looks at later bits goes on with itself
goes_on_itself : (count bit : ℕ) (choose : Bool) (t : Tree) → IsReduced (bit + 1) count t → GoesOn count bit choose t t
goes_on_itself count bit choose t later = record { part_later = later; goes = λ bits is. refl }

turned : (count : ℕ) (a b : Tree) → SameValue count a b → SameValue count b a
turned count a b same bits long = sym (same bits long)

behind : (bit other count : ℕ) (low high : Tree) → bit < other → IsReduced 0 count (branch other low high) → IsReduced (bit + 1) count (branch other low high)
behind bit other count low high before reduced = (omega (arith, before), reduced.1, reduced.2, reduced.3, reduced.4)

from_zero : (first count : ℕ) (t : Tree) → IsReduced first count t → IsReduced 0 count t
from_zero first count t reduced = reduced_earlier 0 first count t (omega arith) reduced

-- ---- the two are one
same_is_one : (a b : Tree) (count : ℕ) → IsReduced 0 count a → IsReduced 0 count b → SameValue count a b → a ≡ b
same_is_one (leaf x) (leaf y) count a_reduced b_reduced same = ap leaf (same (replicate count false) (length-replicate count false))
same_is_one (leaf x) (branch bit c d) count a_reduced b_reduced same =
    let low : leaf x ≡ c = same_is_one (leaf x) c count tt (from_zero (bit + 1) count c b_reduced.3)
    (same_parts count bit false (leaf x) (branch bit c d) (leaf x) c b_reduced.1 (goes_on_itself count bit false (leaf x) tt) (low_goes_on count bit c d b_reduced.3) same) in
    let high : leaf x ≡ d = same_is_one (leaf x) d count tt (from_zero (bit + 1) count d b_reduced.4)
    (same_parts count bit true (leaf x) (branch bit c d) (leaf x) d b_reduced.1 (goes_on_itself count bit true (leaf x) tt) (high_goes_on count bit c d b_reduced.4) same) in
    absurd (b_reduced.2 (sym low ∙ high))
same_is_one (branch bit a b) (leaf y) count a_reduced b_reduced same =
    let low : a ≡ leaf y = same_is_one a (leaf y) count (from_zero (bit + 1) count a a_reduced.3) tt
    (same_parts count bit false (branch bit a b) (leaf y) a (leaf y) a_reduced.1 (low_goes_on count bit a b a_reduced.3) (goes_on_itself count bit false (leaf y) tt) same) in
    let high : b ≡ leaf y = same_is_one b (leaf y) count (from_zero (bit + 1) count b a_reduced.4) tt
    (same_parts count bit true (branch bit a b) (leaf y) b (leaf y) a_reduced.1 (high_goes_on count bit a b a_reduced.4) (goes_on_itself count bit true (leaf y) tt) same) in
    absurd (a_reduced.2 (low ∙ sym high))
same_is_one (branch bit a b) (branch other c d) count a_reduced b_reduced same =
    elim (cases_lt bit other) [
      | inl before ↦ (
          let whole : Tree = branch other c d in
          let later : IsReduced (bit + 1) count whole = behind bit other count c d before b_reduced in
          let low : a ≡ whole = same_is_one a (branch other c d) count (from_zero (bit + 1) count a a_reduced.3) b_reduced
          (same_parts count bit false (branch bit a b) whole a whole a_reduced.1 (low_goes_on count bit a b a_reduced.3) (goes_on_itself count bit false whole later) same) in
          let high : b ≡ whole = same_is_one b (branch other c d) count (from_zero (bit + 1) count b a_reduced.4) b_reduced
          (same_parts count bit true (branch bit a b) whole b whole a_reduced.1 (high_goes_on count bit a b a_reduced.4) (goes_on_itself count bit true whole later) same) in
          absurd (a_reduced.2 (low ∙ sym high)))
      | inr not_before ↦ elim (cases_lt other bit) [
        | inl after ↦ (
            let whole : Tree = branch bit a b in
            let later : IsReduced (other + 1) count whole = behind other bit count a b after a_reduced in
            let low : whole ≡ c = same_is_one (branch bit a b) c count a_reduced (from_zero (other + 1) count c b_reduced.3)
            (same_parts count other false whole (branch other c d) whole c b_reduced.1 (goes_on_itself count other false whole later) (low_goes_on count other c d b_reduced.3) same) in
            let high : whole ≡ d = same_is_one (branch bit a b) d count a_reduced (from_zero (other + 1) count d b_reduced.4)
            (same_parts count other true whole (branch other c d) whole d b_reduced.1 (goes_on_itself count other true whole later) (high_goes_on count other c d b_reduced.4) same) in
            absurd (b_reduced.2 (sym low ∙ high)))
        | inr not_after ↦ (
            let at : other ≡ bit = omega (arith, not_before, not_after) in
            let c_later : IsReduced (bit + 1) count c = subst (λ k. IsReduced (k + 1) count c) at b_reduced.3 in
            let d_later : IsReduced (bit + 1) count d = subst (λ k. IsReduced (k + 1) count d) at b_reduced.4 in
            let at_one : SameValue count (branch bit a b) (branch bit c d) = λ bits long. same bits long ∙ ap (λ k. value (branch k c d) bits) at in
            let low : a ≡ c = same_is_one a c count (from_zero (bit + 1) count a a_reduced.3) (from_zero (bit + 1) count c c_later)
            (same_parts count bit false (branch bit a b) (branch bit c d) a c a_reduced.1 (low_goes_on count bit a b a_reduced.3) (low_goes_on count bit c d c_later) at_one) in
            let high : b ≡ d = same_is_one b d count (from_zero (bit + 1) count b a_reduced.4) (from_zero (bit + 1) count d d_later)
            (same_parts count bit true (branch bit a b) (branch bit c d) b d a_reduced.1 (high_goes_on count bit a b a_reduced.4) (high_goes_on count bit c d d_later) at_one) in
            ap₂ (λ l h. branch bit l h) low high ∙ ap (λ k. branch k c d) (sym at))
      ]
    ]

pub canonical : (count : ℕ) (a b : Tree) → IsReduced 0 count a → IsReduced 0 count b → SameValue count a b → a ≡ b
canonical count a b a_reduced b_reduced same = same_is_one a b count a_reduced b_reduced same

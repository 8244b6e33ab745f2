-- A choice between diagrams is made of the choices between their ends, and stays one in a table that grows.
use Rattle.std.proofs.Common.{◌≡◌, ℕ, ◌≤◌, ◌<◌, ◌+◌, Bool, true, false, Option, Some, cond, if◌then◌else◌, refl, sym, subst, ap, ap₂, ◌∙◌, inl, inr, ◌⊎◌, arith}
use Rattle.std.proofs.lemmas.Bool.Decides.{nat_tests}
use Rattle.circuit.specs.Value.{value_at}
use Rattle.decision_diagram.specs.declared.memo.Choice.{Choice}
use Rattle.decision_diagram.specs.Tree.{Tree, leaf, branch, IsReduced, value}
use Rattle.decision_diagram.specs.Table.{Table, Extends, HasValue, IsOf, LooksFrom, choice, diagram, value_in}
use Rattle.decision_diagram.specs.Inside.Choice.{AreEnds, AreRemembered, IsChoice, IsFirst, IsRemembered, first_of, same_parts}
use Rattle.decision_diagram.proofs.Extending.{looks_earlier}

-- a diagram that stands in two tables looks from the same bit in both
looks_from_there : (a b : Table) (first d : ℕ) → b.bits ≡ a.bits → diagram b d ≡ diagram a d → LooksFrom a first d → LooksFrom b first d
looks_from_there a b first d bits same looks = rw (bits, same) looks

-- the first bit

not_before : (first bit count : ℕ) (t : Tree) → bit < count → first_of count t ≡ bit → IsReduced first count t → first ≤ bit
not_before first bit count (leaf constant) among is r = absurd (omega (arith, among, is))
not_before first bit count (branch b low high) among is r = omega (arith, is, r.0)

from_first : (table : Table) (a b c bit first : ℕ) → IsFirst table a b c bit → LooksFrom table first a → LooksFrom table first b → LooksFrom table first c → first ≤ bit
from_first table a b c bit first f by_a by_b by_c =
    elim f.one [
      | inl is ↦ not_before first bit table.bits (diagram table a) f.among is by_a
      | inr more ↦ elim more [
        | inl is ↦ not_before first bit table.bits (diagram table b) f.among is by_b
        | inr is ↦ not_before first bit table.bits (diagram table c) f.among is by_c
      ]
    ]

-- the places of the ends have a smaller sum

pub low_smaller : (table : Table) (a b c bit a0 a1 b0 b1 c0 c1 : ℕ) → IsFirst table a b c bit
    → AreEnds table bit a a0 a1 → AreEnds table bit b b0 b1 → AreEnds table bit c c0 c1 → a0 + b0 + c0 < a + b + c
low_smaller table a b c bit a0 a1 b0 b1 c0 c1 f ea eb ec =
    elim f.one [
      | inl is ↦ omega (arith, (ea.smaller f.among is).0, eb.low_most, ec.low_most)
      | inr more ↦ elim more [
        | inl is ↦ omega (arith, ea.low_most, (eb.smaller f.among is).0, ec.low_most)
        | inr is ↦ omega (arith, ea.low_most, eb.low_most, (ec.smaller f.among is).0)
      ]
    ]

pub high_smaller : (table : Table) (a b c bit a0 a1 b0 b1 c0 c1 : ℕ) → IsFirst table a b c bit
    → AreEnds table bit a a0 a1 → AreEnds table bit b b0 b1 → AreEnds table bit c c0 c1 → a1 + b1 + c1 < a + b + c
high_smaller table a b c bit a0 a1 b0 b1 c0 c1 f ea eb ec =
    elim f.one [
      | inl is ↦ omega (arith, (ea.smaller f.among is).1, eb.high_most, ec.high_most)
      | inr more ↦ elim more [
        | inl is ↦ omega (arith, ea.high_most, (eb.smaller f.among is).1, ec.high_most)
        | inr is ↦ omega (arith, ea.high_most, eb.high_most, (ec.smaller f.among is).1)
      ]
    ]

-- a choice in other tables that have the same diagrams
moved : (old old2 new new2 : Table) (a b c d : ℕ) → old.bits ≡ old2.bits → new2.bits ≡ new.bits
    → diagram old2 a ≡ diagram old a → diagram old2 b ≡ diagram old b → diagram old2 c ≡ diagram old c → diagram new2 d ≡ diagram new d
    → IsOf new2 d → IsChoice old new a b c d → IsChoice old2 new2 a b c d
moved old old2 new new2 a b c d bits new_bits sa sb sc sd within made = record {
  has_value = record {
    within = within;
    value = λ bs.
        ap (λ (t : Tree). value t bs) sd
        ∙ made.has_value.value bs
        ∙ ap₂ (λ p q. cond p q (value_in old c bs)) (sym (ap (λ (t : Tree). value t bs) sa)) (sym (ap (λ (t : Tree). value t bs) sb))
        ∙ ap (λ q. cond (value_in old2 a bs) (value_in old2 b bs) q) (sym (ap (λ (t : Tree). value t bs) sc));
  };
  from = λ first by_a by_b by_c.
      looks_from_there new new2 first d new_bits sd
      (made.from first (looks_from_there old2 old first a bits (sym sa) by_a) (looks_from_there old2 old first b bits (sym sb) by_b) (looks_from_there old2 old first c bits (sym sc) by_c));
}

-- told of an earlier table that has the three
pub choice_of_older : (older old new : Table) (a b c d : ℕ) → Extends older old → IsOf older a → IsOf older b → IsOf older c
    → IsChoice old new a b c d → IsChoice older new a b c d
choice_of_older older old new a b c d grown ha hb hc made =
    moved old older new new a b c d grown.bits refl (sym (grown.older a ha)) (sym (grown.older b hb)) (sym (grown.older c hc)) refl made.has_value.within made

-- told of a later table on both sides
choice_of_later : (old new : Table) (a b c d : ℕ) → Extends old new → IsOf old a → IsOf old b → IsOf old c
    → IsChoice old new a b c d → IsChoice new new a b c d
choice_of_later old new a b c d grown ha hb hc made =
    moved old new new new a b c d (sym grown.bits) refl (grown.older a ha) (grown.older b hb) (grown.older c hc) refl made.has_value.within made

-- what is remembered

stays : (old new : Table) (parts : Choice) (d : ℕ) → Extends old new → IsRemembered old parts d → IsRemembered new parts d
stays old new parts d grown known = record {
  condition = omega (arith, known.condition, grown.longer);
  yes = omega (arith, known.yes, grown.longer);
  other = omega (arith, known.other, grown.longer);
  made = moved old new old new parts.condition parts.yes parts.other d (sym grown.bits) grown.bits
      (grown.older parts.condition known.condition) (grown.older parts.yes known.yes) (grown.older parts.other known.other)
      (grown.older d known.made.has_value.within) (omega (arith, known.made.has_value.within, grown.longer)) known.made;
}

pub remembered_stay : (old new : Table) (known : Choice → Option ℕ) → Extends old new → AreRemembered old known → AreRemembered new known
remembered_stay old new known grown right = λ parts d found. stays old new parts d grown (right parts d found)

parts_same : (a b : Choice) → same_parts a b ≡ true → a ≡ b
parts_same a b same = grind (arith, nat_tests)

either : (b : Bool) → (b ≡ true) ⊎ (b ≡ false)
either true = inl refl
either false = inr refl

pub remembered_more : (old new : Table) (before after : Choice → Option ℕ) (parts : Choice) (d : ℕ) → AreRemembered new before → Extends old new
    → IsOf old parts.condition → IsOf old parts.yes → IsOf old parts.other → IsChoice old new parts.condition parts.yes parts.other d
    → ((more : Choice) → after more ≡ cond (same_parts parts more) (Some d) (before more)) → AreRemembered new after
remembered_more old new before after parts d right grown hc hy ho made now = λ more place found.
    let found_by : cond (same_parts parts more) (Some d) (before more) ≡ Some place = sym (now more) ∙ found in
    elim (either (same_parts parts more)) [
      | inl same ↦ (
          let at : Some d ≡ Some place = ap (λ b. cond b (Some d) (before more)) (sym same) ∙ found_by in
          let is : d ≡ place = cc at in
          let added : IsRemembered new parts d = record {
            condition = omega (arith, hc, grown.longer);
            yes = omega (arith, hy, grown.longer);
            other = omega (arith, ho, grown.longer);
            made = choice_of_later old new parts.condition parts.yes parts.other d grown hc hy ho made;
          } in
          subst (λ (k : Choice). IsRemembered new k place) (parts_same parts more same) (subst (λ n. IsRemembered new parts n) is added)
          )
      | inr not ↦ right more place (ap (λ b. cond b (Some d) (before more)) (sym not) ∙ found_by)
    ]

-- the two halves

pub half_later : (old new later : Table) (bit a b c d : ℕ) → LooksFrom old (bit + 1) a → LooksFrom old (bit + 1) b → LooksFrom old (bit + 1) c
    → IsChoice old new a b c d → Extends new later → LooksFrom later (bit + 1) d
half_later old new later bit a b c d by_a by_b by_c made grown =
    looks_from_there new later (bit + 1) d grown.bits (grown.older d made.has_value.within) (made.from (bit + 1) by_a by_b by_c)

exchanged : (b a0 a1 b0 b1 c0 c1 : Bool) → cond b (cond a1 b1 c1) (cond a0 b0 c0) ≡ cond (cond b a1 a0) (cond b b1 b0) (cond b c1 c0)
exchanged true a0 a1 b0 b1 c0 c1 = refl
exchanged false a0 a1 b0 b1 c0 c1 = refl

pub choice_of_halves : (t0 t1 t2 t3 : Table) (bit a b c a0 a1 b0 b1 c0 c1 low high d : ℕ) → IsFirst t0 a b c bit
    → AreEnds t0 bit a a0 a1 → AreEnds t0 bit b b0 b1 → AreEnds t0 bit c c0 c1 → Extends t0 t1 → Extends t1 t2
    → IsChoice t0 t1 a0 b0 c0 low → IsChoice t1 t2 a1 b1 c1 high
    → HasValue t3 (λ bits. if value_at bits bit then value_in t2 high bits else value_in t2 low bits) d → LooksFrom t3 bit d
    → IsChoice t0 t3 a b c d
choice_of_halves t0 t1 t2 t3 bit a b c a0 a1 b0 b1 c0 c1 low high d f ea eb ec first second made_low made_high whole from = record {
  has_value = record {
    within = whole.within;
    value = λ bits.
        let upper : IsChoice t0 t2 a1 b1 c1 high = choice_of_older t0 t1 t2 a1 b1 c1 high first ea.high_within eb.high_within ec.high_within made_high in
        let lower : value_in t2 low bits ≡ choice t0 a0 b0 c0 bits = ap (λ (t : Tree). value t bits) (second.older low made_low.has_value.within) ∙ made_low.has_value.value bits in
        whole.value bits
        ∙ ap₂ (λ p q. cond (value_at bits bit) p q) (upper.has_value.value bits) lower
        ∙ exchanged (value_at bits bit) (value_in t0 a0 bits) (value_in t0 a1 bits) (value_in t0 b0 bits) (value_in t0 b1 bits) (value_in t0 c0 bits) (value_in t0 c1 bits)
        ∙ ap₂ (λ p q. cond p q (cond (value_at bits bit) (value_in t0 c1 bits) (value_in t0 c0 bits))) (sym (ea.value bits)) (sym (eb.value bits))
        ∙ ap (λ q. cond (value_in t0 a bits) (value_in t0 b bits) q) (sym (ec.value bits));
  };
  from = λ first_bit by_a by_b by_c. looks_earlier t3 first_bit bit d (from_first t0 a b c bit first_bit f by_a by_b by_c) from;
}

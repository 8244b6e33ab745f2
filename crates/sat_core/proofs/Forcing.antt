-- Literals that are decided or forced, one after another, and what their values are at the end.
use mathlib.Core.Bool.{beq}
use Rattle.std.proofs.lemmas.Bool.{and_parts, eqb-true}
use Rattle.std.proofs.Common.{eqb, ◌&&◌, ◌≡◌, ◌<◌, ◌≤◌, inl, inr, Option, Some, None, length, map, replicate, set, get_or, ℕ, zero, suc, Bool, true, false, not, List, [], ◌∷◌, arith, sym, ap, ◌∙◌, refl, subst}
use Rattle.std.proofs.lemmas.List.{get_or-set_same, length-map}
use Rattle.cnf.specs.declared.lit.Lit.{Lit}
use Rattle.cnf.specs.Clauses.{Formula, Follows, IsModel, all_hold, lit_holds}
use Rattle.cnf.specs.Order.{IsLeast, LexLe}
use Rattle.proof_check.specs.declared.table.Outcome.TheVariants as outcome
use Rattle.proof_check.specs.Values.{with_true}
use Rattle.proof_check.specs.Propagation.{propagates}
use Rattle.proof_check.proofs.Agreement.{IsWithin-with_true, reads_set, signed-true}
use Rattle.proof_check.proofs.Sound.{unit_holds}
use Rattle.sat_core.specs.declared.source.Source.{Source}
use Rattle.sat_core.specs.Inside.Walk.{HasValues, HasValuesBelow, IsForced, HasReason, MayFollow}

pub forced_by : (formula : Formula) (t : List (Option Bool)) (left l : Lit) (lits : List Lit) → Follows formula.vars formula.clauses lits → propagates t lits ≡ outcome.Unit left → left ≡ l → IsForced formula t l
forced_by formula t left l lits follows unit same values model agrees =
    ap (lit_holds values) (sym same) ∙ unit_holds values t lits left (record { same = agrees }) unit (follows values model)

-- A model that has the table's values up to the floor, where the last decision is, has them all; and what is true in the
-- table is true in each model that has the values before it.
pub record Forces (formula : Formula) (t : List (Option Bool)) (floor : ℕ) : Type 0 where
  pub all : (values : List Bool) → IsModel formula.vars formula.clauses values → (end : ℕ) → floor ≤ end → HasValuesBelow values t end → HasValues values t
  pub ones : (k : ℕ) → get_or t k None ≡ Some true → (values : List Bool) → IsModel formula.vars formula.clauses values → HasValuesBelow values t k → get_or values k false ≡ true

-- a value that was there is still there when a variable without one gets one
still_there : (t : List (Option Bool)) (i k : ℕ) (v b : Bool) → get_or t i None ≡ None → get_or t k None ≡ Some b → get_or (set t i (Some v)) k None ≡ Some b
still_there [] i k v b free is = is
still_there (x ∷ xs) zero zero v b free is = absurd (cc)
still_there (x ∷ xs) zero (suc k) v b free is = is
still_there (x ∷ xs) (suc i) zero v b free is = is
still_there (x ∷ xs) (suc i) (suc k) v b free is = still_there xs i k v b free is

agrees_before : (values : List Bool) (t : List (Option Bool)) (i : ℕ) (v : Bool) (end : ℕ) → get_or t i None ≡ None → HasValuesBelow values (set t i (Some v)) end → HasValuesBelow values t end
agrees_before values t i v end free below k b less is = below k b less (still_there t i k v b free is)

after_decision : (formula : Formula) (t : List (Option Bool)) (floor next i : ℕ) → Forces formula t floor → i < length t → get_or t i None ≡ None → floor ≤ next → i < next → Forces formula (set t i (Some false)) next
after_decision formula t floor next i h within free up over = record {
  all = λ values model end reach below k b is. elim (reads_set t i k false b is) [
    | inl w ↦ ap (λ x. get_or values x false) w.0 ∙ below i false (omega arith) (get_or-set_same t i (Some false) None within) ∙ w.1
    | inr w ↦ h.all values model end (omega arith) (agrees_before values t i false end free below) k b w
  ];
  ones = λ k is values model below. elim (reads_set t i k false true is) [
    | inl w ↦ absurd (let wrong : false ≡ true = w.1 in cc)
    | inr w ↦ h.ones k w values model (agrees_before values t i false k free below)
  ];
}

was_false : (b : Bool) → not b ≡ true → b ≡ false
was_false true e = absurd (cc)
was_false false e = refl

after_forced : (formula : Formula) (t : List (Option Bool)) (floor : ℕ) (l : Lit) → Forces formula t floor → get_or t l.var None ≡ None → IsForced formula t l → (l.negative ≡ false → floor ≤ l.var) → Forces formula (with_true t l) floor
after_forced formula t floor l h free forced low =
    let v : Bool = not l.negative in
    record {
      all = λ values model end reach below.
          let agrees : HasValues values t = h.all values model end reach (agrees_before values t l.var v end free below) in
          (IsWithin-with_true values t l (record { same = agrees }) (forced values model agrees)).same;
      ones = λ k is values model below. elim (reads_set t l.var k v true is) [
        | inl w ↦
            let agrees : HasValues values t = h.all values model k (rw w.0 (low (was_false l.negative w.1))) (agrees_before values t l.var v k free below) in
            ap (λ x. get_or values x false) w.0 ∙ signed-true l.negative (get_or values l.var false) (forced values model agrees) ∙ w.1
        | inr w ↦ h.ones k w values model (agrees_before values t l.var v k free below)
      ];
    }

pub goes_on : (formula : Formula) (t : List (Option Bool)) (floor next : ℕ) (l : Lit) (source : Option Source) → Forces formula t floor → MayFollow formula t floor l source
    → (source ≡ None → (floor ≤ next) × (l.var < next)) → ((s : Source) → source ≡ Some s → next ≡ floor) → Forces formula (with_true t l) next
goes_on formula t floor next l source h may decided forced =
    elim source as (λ o. source ≡ o → HasReason formula t floor l o → Forces formula (with_true t l) next) [
      | None ↦ λ is why.
          let up = decided is in
          subst (λ b. Forces formula (set t l.var (Some b)) next) (sym (ap not why)) (after_decision formula t floor next l.var h may.within may.free up.0 up.1)
      | Some s ↦ λ is why.
          subst (Forces formula (with_true t l)) (sym (forced s is)) (after_forced formula t floor l h may.free why.0 why.1)
    ] refl may.reason

-- of two lists of one length the first is not behind, if where it is true for the first time that they could differ so is
-- the other
not_behind : (xs ys : List Bool) → length xs ≡ length ys → ((k : ℕ) → get_or xs k false ≡ true → ((j : ℕ) → j < k → get_or ys j false ≡ get_or xs j false) → get_or ys k false ≡ true) → LexLe xs ys
not_behind [] ys e f = tt
not_behind (x ∷ xs) [] e f = absurd (omega arith)
not_behind (false ∷ xs) (true ∷ ys) e f = tt
not_behind (true ∷ xs) (false ∷ ys) e f = let wrong : false ≡ true = f zero refl (λ j less. absurd (omega arith)) in absurd (cc)
not_behind (false ∷ xs) (false ∷ ys) e f = not_behind xs ys (omega arith) (λ k is below. f (suc k) is (λ j. elim j as (λ j. j < suc k → get_or (false ∷ ys) j false ≡ get_or (false ∷ xs) j false) [ zero ↦ λ less. refl | suc i ↦ λ less. below i (omega arith) ]))
not_behind (true ∷ xs) (true ∷ ys) e f = not_behind xs ys (omega arith) (λ k is below. f (suc k) is (λ j. elim j as (λ j. j < suc k → get_or (true ∷ ys) j false ≡ get_or (true ∷ xs) j false) [ zero ↦ λ less. refl | suc i ↦ λ less. below i (omega arith) ]))

reads_full : (xs : List Bool) (k : ℕ) (b : Bool) → get_or (map Some xs) k None ≡ Some b → get_or xs k false ≡ b
reads_full [] k b is = absurd (cc)
reads_full (x ∷ xs) zero b is = cc
reads_full (x ∷ xs) (suc k) b is = reads_full xs k b is

true_in_full : (xs : List Bool) (k : ℕ) → get_or xs k false ≡ true → get_or (map Some xs) k None ≡ Some true
true_in_full [] k is = absurd (cc)
true_in_full (x ∷ xs) zero is = ap Some is
true_in_full (x ∷ xs) (suc k) is = true_in_full xs k is

-- where each variable has a value, and the clauses hold
pub least : (formula : Formula) (t : List (Option Bool)) (floor : ℕ) (xs : List Bool) → Forces formula t floor → t ≡ map Some xs → length t ≡ formula.vars → all_hold xs formula.clauses ≡ true → IsLeast formula.vars formula.clauses xs
least formula t floor xs h full long holds =
    let forces : Forces formula (map Some xs) floor = subst (λ u. Forces formula u floor) full h in
    let count : length xs ≡ formula.vars = sym (length-map xs Some) ∙ sym (ap length full) ∙ long in
    record {
      model = record { count = count; holds = holds };
      least = λ other model. not_behind xs other (count ∙ sym model.count) (λ k is below.
          forces.ones k (true_in_full xs k is) other model (λ j b less read. below j less ∙ reads_full xs j b read));
    }

blank_reads : (n k : ℕ) (b : Bool) → get_or (replicate n None) k None ≡ Some b → ⊥
blank_reads zero k b is = cc
blank_reads (suc n) zero b is = cc
blank_reads (suc n) (suc k) b is = blank_reads n k b is

pub nothing_yet : (formula : Formula) (n : ℕ) → Forces formula (replicate n None) zero
nothing_yet formula n = record {
  all = λ values model end reach below k b is. absurd (blank_reads n k b is);
  ones = λ k is values model below. absurd (blank_reads n k true is);
}

same_signs : (a b : Bool) → beq a b ≡ true → a ≡ b
same_signs true true e = refl
same_signs true false e = absurd (cc)
same_signs false true e = absurd (cc)
same_signs false false e = refl

not_false : (b : Bool) → false ≡ not b → b ≡ true
not_false true e = refl
not_false false e = absurd (cc)

pub same_lits : (a b : Lit) → false ≡ not (eqb a.var b.var && beq a.negative b.negative) → a ≡ b
same_lits a b e =
    let both = and_parts (eqb a.var b.var) (beq a.negative b.negative) (not_false (eqb a.var b.var && beq a.negative b.negative) e) in
    let var : a.var ≡ b.var = eqb-true a.var b.var both.0 in
    let sign : a.negative ≡ b.negative = same_signs a.negative b.negative both.1 in
    λ i. record { var = var i; negative = sign i }

-- What steps without a fault say of the values under which the clauses hold.
use Rattle.std.proofs.Common.{◌≡◌, eqb, ℕ, ◌+◌, Option, Some, None, map, replicate, Bool, true, false, ◌||◌, List, [], ◌∷◌, sym, ap, ◌∙◌, refl, subst, if◌then◌else◌}
use Rattle.std.specs.List.{list_all}
use Rattle.std.proofs.lemmas.Bool.{and_parts, or_parts, or_from, both_ways, eqb-true}
use Rattle.cnf.specs.declared.lit.Lit.{Lit}
use Rattle.cnf.specs.Clauses.{lit_holds, clause_holds, all_hold}
use Rattle.certificates.specs.declared.derivation.Item.{Item}
use Rattle.certificates.specs.declared.derivation.Item.TheVariants as item
use Rattle.proof_check.specs.declared.fault.CheckFault.TheVariants as fault
use Rattle.proof_check.specs.declared.table.Outcome.TheVariants as outcome
use Rattle.proof_check.specs.Values.{value_of, by_value, with_true, with_false, remaining, same_sign, same_lit}
use Rattle.proof_check.specs.Propagation.{outcome_of, propagates, assumed, by_outcome, behind_conflict, hint_fault}
use Rattle.proof_check.specs.Derivations.{by_option, live_at, fault_by, is_empty, is_in_range, step_fault, delete_fault, Progress, after_step, after_delete, at_first, first_fault}
use Rattle.proof_check.specs.Inside.Each.{Each}
use Rattle.proof_check.specs.Refutation.{RefutedHaveNoModel}
use Rattle.proof_check.proofs.Living.{Each-cons, Each-tail, Each-hinted, Each-push, Each-without_all}
use Rattle.proof_check.proofs.Agreement.{IsWithin, IsWithin-blank, IsWithin-with_true, IsWithin-with_false, lit_holds_by}

-- each clause that there is holds
abbrev pub LiveHold : List Bool → List (Option (List Lit)) → Type 0
LiveHold values live = Each (λ lits. clause_holds values lits ≡ true) live

-- ONE CLAUSE

-- a literal that is false makes no difference
remaining_holds : (values : List Bool) (t : List (Option Bool)) (lits : List Lit) → IsWithin values t → clause_holds values (remaining t lits) ≡ clause_holds values lits
remaining_holds values t [] h = refl
remaining_holds values t (l ∷ ls) h =
    let rest = remaining_holds values t ls h in
    elim (value_of t l) as (λ o. value_of t l ≡ o → clause_holds values (if by_value o true false true then l ∷ remaining t ls else remaining t ls) ≡ (lit_holds values l || clause_holds values ls)) [
      | None ↦ λ is. ap (λ b. lit_holds values l || b) rest
      | Some b ↦ elim b as (λ b. value_of t l ≡ Some b → clause_holds values (if by_value (Some b) true false true then l ∷ remaining t ls else remaining t ls) ≡ (lit_holds values l || clause_holds values ls)) [
        | true ↦ λ is. ap (λ b. lit_holds values l || b) rest
        | false ↦ λ is. rest ∙ ap (λ b. b || clause_holds values ls) (sym (lit_holds_by values t l false h is))
      ]
    ] refl

conflict_has_none : (t : List (Option Bool)) (ls : List Lit) → outcome_of t ls ≡ outcome.Conflict → ls ≡ []
conflict_has_none t [] e = refl
conflict_has_none t (l ∷ ls) e =
    elim (value_of t l) as (λ o. by_value o (if list_all (same_lit l) ls then outcome.Unit l else outcome.Stuck) outcome.Stuck outcome.Stuck ≡ outcome.Conflict → l ∷ ls ≡ []) [
      | None ↦ elim (list_all (same_lit l) ls) as (λ b. (if b then outcome.Unit l else outcome.Stuck) ≡ outcome.Conflict → l ∷ ls ≡ []) [ true ↦ λ x. absurd (cc) | false ↦ λ x. absurd (cc) ]
      | Some b ↦ elim b as (λ b. by_value (Some b) (if list_all (same_lit l) ls then outcome.Unit l else outcome.Stuck) outcome.Stuck outcome.Stuck ≡ outcome.Conflict → l ∷ ls ≡ []) [ true ↦ λ x. absurd (cc) | false ↦ λ x. absurd (cc) ]
    ] e

pub conflict_fails : (values : List Bool) (t : List (Option Bool)) (lits : List Lit) → IsWithin values t → propagates t lits ≡ outcome.Conflict → clause_holds values lits ≡ false
conflict_fails values t lits h e =
    sym (remaining_holds values t lits h) ∙ ap (clause_holds values) (conflict_has_none t (remaining t lits) e)

sign_is : (a b : Bool) → same_sign a b ≡ true → a ≡ b
sign_is true true e = refl
sign_is true false e = absurd (cc)
sign_is false true e = absurd (cc)
sign_is false false e = refl

same_holds : (values : List Bool) (a b : Lit) → same_lit a b ≡ true → lit_holds values b ≡ lit_holds values a
same_holds values a b e =
    let both = and_parts (eqb a.var b.var) (same_sign a.negative b.negative) e in
    let var : a.var ≡ b.var = eqb-true a.var b.var both.0 in
    let sign : a.negative ≡ b.negative = sign_is a.negative b.negative both.1 in
    cc

others_hold : (values : List Bool) (l : Lit) (ls : List Lit) → list_all (same_lit l) ls ≡ true → clause_holds values ls ≡ true → lit_holds values l ≡ true
others_hold values l [] e k = absurd (cc)
others_hold values l (x ∷ xs) e k =
    let both = and_parts (same_lit l x) (list_all (same_lit l) xs) e in
    elim (lit_holds values x) as (λ b. lit_holds values x ≡ b → (b || clause_holds values xs) ≡ true → lit_holds values l ≡ true) [
      | true ↦ λ is w. sym (same_holds values l x both.0) ∙ is
      | false ↦ λ is w. others_hold values l xs both.1 w
    ] refl k

unit_is_first : (values : List Bool) (t : List (Option Bool)) (ls : List Lit) (u : Lit) → outcome_of t ls ≡ outcome.Unit u → clause_holds values ls ≡ true → lit_holds values u ≡ true
unit_is_first values t [] u e k = absurd (cc)
unit_is_first values t (l ∷ ls) u e k =
    elim (value_of t l) as (λ o. by_value o (if list_all (same_lit l) ls then outcome.Unit l else outcome.Stuck) outcome.Stuck outcome.Stuck ≡ outcome.Unit u → lit_holds values u ≡ true) [
      | None ↦ elim (list_all (same_lit l) ls) as (λ b. list_all (same_lit l) ls ≡ b → (if b then outcome.Unit l else outcome.Stuck) ≡ outcome.Unit u → lit_holds values u ≡ true) [
        | true ↦ λ all x.
            let same : l ≡ u = cc in
            ap (lit_holds values) (sym same) ∙ elim (lit_holds values l) as (λ b. lit_holds values l ≡ b → (b || clause_holds values ls) ≡ true → b ≡ true) [
              | true ↦ λ is w. refl
              | false ↦ λ is w. sym is ∙ others_hold values l ls all w
            ] refl k
        | false ↦ λ all x. absurd (cc)
      ] refl
      | Some b ↦ elim b as (λ b. by_value (Some b) (if list_all (same_lit l) ls then outcome.Unit l else outcome.Stuck) outcome.Stuck outcome.Stuck ≡ outcome.Unit u → lit_holds values u ≡ true) [ true ↦ λ x. absurd (cc) | false ↦ λ x. absurd (cc) ]
    ] e

pub unit_holds : (values : List Bool) (t : List (Option Bool)) (lits : List Lit) (l : Lit) → IsWithin values t → propagates t lits ≡ outcome.Unit l → clause_holds values lits ≡ true → lit_holds values l ≡ true
unit_holds values t lits l h e k =
    unit_is_first values t (remaining t lits) l e (remaining_holds values t lits h ∙ k)

-- ONE STEP

pub assumed_agrees : (values : List Bool) (t u : List (Option Bool)) (lits : List Lit) → IsWithin values t → clause_holds values lits ≡ false → assumed t lits ≡ Some u → IsWithin values u
assumed_agrees values t u [] h k e = let same : t ≡ u = cc in subst (IsWithin values) same h
assumed_agrees values t u (l ∷ ls) h k e =
    let both = or_parts (lit_holds values l) (clause_holds values ls) k in
    elim (value_of t l) as (λ o. by_value o (assumed (with_false t l) ls) (assumed t ls) None ≡ Some u → IsWithin values u) [
      | None ↦ λ x. assumed_agrees values (with_false t l) u ls (IsWithin-with_false values t l h both.0) both.1 x
      | Some b ↦ elim b as (λ b. by_value (Some b) (assumed (with_false t l) ls) (assumed t ls) None ≡ Some u → IsWithin values u) [
        | true ↦ λ x. absurd (cc)
        | false ↦ λ x. assumed_agrees values t u ls h both.1 x
      ]
    ] e

no_such_hints : (values : List Bool) (t : List (Option Bool)) (hinted : List (Option (List Lit))) (place : ℕ) → IsWithin values t → LiveHold values hinted → hint_fault t hinted place ≡ None → ⊥
no_such_hints values t [] place h all e = cc
no_such_hints values t (None ∷ rest) place h all e = cc
no_such_hints values t (Some lits ∷ rest) place h all e =
    let holds : clause_holds values lits ≡ true = all.at 0 in
    elim (propagates t lits) as (λ o. propagates t lits ≡ o → by_outcome o (behind_conflict rest place) (λ l. hint_fault (with_true t l) rest (place + 1)) (Some place) ≡ None → ⊥) [
      | outcome.Conflict ↦ λ is x. both_ways (clause_holds values lits) (conflict_fails values t lits h is) holds
      | outcome.Unit l ↦ λ is x. no_such_hints values (with_true t l) rest (place + 1) (IsWithin-with_true values t l h (unit_holds values t lits l h is holds)) (Each-tail (λ lits. clause_holds values lits ≡ true) (Some lits) rest all) x
      | outcome.Stuck ↦ λ is x. cc
    ] refl e

-- a step without a fault over clauses that hold has a clause that holds
pub step_holds : (vars : ℕ) (hinted : List (Option (List Lit))) (lits : List Lit) (values : List Bool) → fault_by vars hinted lits ≡ None → LiveHold values hinted → clause_holds values lits ≡ true
step_holds vars hinted lits values e all =
    elim (clause_holds values lits) as (λ b. clause_holds values lits ≡ b → b ≡ true) [
      | true ↦ λ is. refl
      | false ↦ λ is. elim (assumed (replicate vars None) lits) as (λ o. assumed (replicate vars None) lits ≡ o → by_option o (Some 0) (λ t. hint_fault t hinted 1) ≡ None → false ≡ true) [
        | None ↦ λ made x. absurd (cc)
        | Some t ↦ λ made x. absurd (no_such_hints values t hinted 1 (assumed_agrees values (replicate vars None) t lits (IsWithin-blank values vars) is made) all x)
      ] refl e
    ] refl

-- ALL ITEMS

pub LiveHold-given : (values : List Bool) (clauses : List (List Lit)) → all_hold values clauses ≡ true → LiveHold values (map Some clauses)
LiveHold-given values [] e = record { at = λ place. tt }
LiveHold-given values (c ∷ cs) e =
    let both = and_parts (clause_holds values c) (all_hold values cs) e in
    Each-cons (λ lits. clause_holds values lits ≡ true) (Some c) (map Some cs) both.0 (LiveHold-given values cs both.1)

not_empty : (values : List Bool) (lits : List Lit) → clause_holds values lits ≡ true → is_empty lits ≡ false
not_empty values [] e = absurd (cc)
not_empty values (l ∷ ls) e = refl

pub no_fault : {B : Type 0} (o : Option ℕ) (x : Option B) (f : ℕ → B) → by_option o x (λ place. Some (f place)) ≡ None → (o ≡ None) × (x ≡ None)
no_fault None x f e = (refl, e)
no_fault (Some place) x f e = absurd (cc)

pub if_none : {B : Type 0} (b : Bool) (x : Option B) (y : B) → (if b then x else Some y) ≡ None → (b ≡ true) × (x ≡ None)
if_none true x y e = (refl, e)
if_none false x y e = absurd (cc)

no_refutation : (vars : ℕ) (values : List Bool) (items : List Item) (p : Progress) → LiveHold values p.live → p.refuted ≡ false → first_fault vars p items ≡ None → ⊥
no_refutation vars values [] p h open_yet e =
    both_ways p.refuted open_yet (if_none p.refuted None fault.NotEmpty e).0
no_refutation vars values (item.Add step ∷ items) p h open_yet e =
    let ranged = if_none (is_in_range vars step.clause) (by_option (step_fault vars p.live step) (first_fault vars (after_step p step) items) (λ place. Some (fault.Hint (p.steps + 1) place))) (fault.VarRange (p.steps + 1)) e in
    let parts = no_fault (step_fault vars p.live step) (first_fault vars (after_step p step) items) (λ place. fault.Hint (p.steps + 1) place) ranged.1 in
    let holds : clause_holds values step.clause ≡ true = step_holds vars (map (live_at p.live) step.hints) step.clause values parts.0 (Each-hinted (λ lits. clause_holds values lits ≡ true) p.live step.hints h) in
    no_refutation vars values items (after_step p step) (Each-push (λ lits. clause_holds values lits ≡ true) p.live step.clause h holds) (or_from p.refuted (is_empty step.clause) open_yet (not_empty values step.clause holds)) parts.1
no_refutation vars values (item.Delete numbers ∷ items) p h open_yet e =
    let parts = no_fault (delete_fault p.live numbers 1) (first_fault vars (after_delete p numbers) items) (λ place. fault.NotLive (p.items + 1) place) e in
    no_refutation vars values items (after_delete p numbers) (Each-without_all (λ lits. clause_holds values lits ≡ true) p.live numbers h) open_yet parts.1

pub refuted_have_no_model : RefutedHaveNoModel
refuted_have_no_model vars clauses items values e model =
    no_refutation vars values items (at_first clauses) (LiveHold-given values clauses model.holds) refl e

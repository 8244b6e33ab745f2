-- The steps of a plain split are right, and what it finds is the least model.
use Rattle.std.proofs.Common.{◌≡◌, ◌<◌, ◌≤◌, ◌+◌, Option, Some, None, length, map, replicate, set, get_or, ℕ, zero, suc, Bool, true, false, ◌||◌, ◌&&◌, List, [], ◌∷◌, ◌++◌, arith, sym, ap, ◌∙◌, refl, subst, if◌then◌else◌, nat_lt}
use Rattle.std.specs.Option.{option_map}
use Rattle.std.specs.List.{AllByRecursion, list_any}
use Rattle.std.proofs.lemmas.Bool.{and_parts, or_parts, or_from, both_ways}
use Rattle.std.proofs.lemmas.Bool.Decides.{nat_tests}
use Rattle.std.proofs.lemmas.List.{append-nil, append_assoc, map-append, length-map, length-append, get_or_at, set_at, get_or_append_left, get_or-map}
use Rattle.std.proofs.lemmas.List.Elements.{recursion_from_All, filter-append}
use Rattle.cnf.specs.declared.lit.Lit.{Lit}
use Rattle.cnf.specs.Clauses.{Formula, signed, lit_holds, clause_holds, all_hold, IsInRange, IsModel}
use Rattle.cnf.specs.Order.{IsLeast, LexLe}
use Rattle.certificates.specs.declared.derivation.Step.{Step}
use Rattle.certificates.specs.declared.derivation.Item.{Item}
use Rattle.certificates.specs.declared.derivation.Item.TheVariants as item
use Rattle.proof_check.specs.declared.fault.CheckFault.TheVariants as fault
use Rattle.proof_check.specs.declared.table.Outcome.TheVariants as outcome
use Rattle.proof_check.specs.Values.{value_of, by_value, with_true, with_false, remaining}
use Rattle.proof_check.specs.Propagation.{assumed, outcome_of, propagates, by_outcome, behind_conflict, hint_fault}
use Rattle.proof_check.specs.Derivations.{Live, live_at, by_option, is_empty, is_in_range, step_fault, Progress, after_step, at_first, first_fault, IsAccepted}
use Rattle.sat_core.specs.Solving.{adds_empty, EndsEmpty}
use Rattle.sat_core.specs.Inside.Split.{AreRight, Excludes, Grows, IsLeastAfter, IsLog, IsRight, excluding, some_empty, with_steps}

abbrev clause_of : Step → List Lit
clause_of s = s.clause

abbrev lit : ℕ → Bool → Lit
lit var negative = record { var = var; negative = negative }

-- THE TABLE UNDER A CHOICE

-- the first variables have these values, and so many more have none
abbrev chosen_table : List Bool → ℕ → List (Option Bool)
chosen_table chosen more = map Some chosen ++ replicate more None

both_true : (a b : Bool) → a ≡ true → b ≡ true → (a && b) ≡ true
both_true true b h k = k
both_true false b h k = absurd (cc)

below : (k n : ℕ) → k < n → nat_lt k n ≡ true
below k n h = grind (arith, nat_tests)

excluding_in_range : (chosen : List Bool) (from vars : ℕ) → from + length chosen ≤ vars → is_in_range vars (excluding from chosen) ≡ true
excluding_in_range [] from vars h = refl
excluding_in_range (b ∷ chosen) from vars h = both_true (nat_lt from vars) (is_in_range vars (excluding (from + 1) chosen)) (below from vars (omega arith)) (excluding_in_range chosen (from + 1) vars (omega arith))

excluding_push : (chosen : List Bool) (b : Bool) (from n : ℕ) → n ≡ from + length chosen → excluding from (chosen ++ b ∷ []) ≡ excluding from chosen ++ lit n b ∷ []
excluding_push [] b from n h = let same : from ≡ n = omega arith in ap (λ k. lit k b ∷ []) same
excluding_push (x ∷ chosen) b from n h = ap (λ ls. lit from x ∷ ls) (excluding_push chosen b (from + 1) n (omega arith))

at_the_seam : (chosen : List Bool) (x : Option Bool) (rest : List (Option Bool)) (n : ℕ) → n ≡ length chosen → get_or (map Some chosen ++ x ∷ rest) n None ≡ x
at_the_seam chosen x rest n h = get_or_at (map Some chosen) x rest None n (length-map chosen Some ∙ sym h)

set_at_the_seam : (chosen : List Bool) (x : Option Bool) (b : Bool) (rest : List (Option Bool)) (n : ℕ) → n ≡ length chosen → set (map Some chosen ++ x ∷ rest) n (Some b) ≡ map Some (chosen ++ b ∷ []) ++ rest
set_at_the_seam chosen x b rest n h =
    set_at (map Some chosen) x rest (Some b) n (length-map chosen Some ∙ sym h)
    ∙ sym (append_assoc (map Some chosen) (Some b ∷ []) rest)
    ∙ ap (λ t. t ++ rest) (sym (map-append Some chosen (b ∷ [])))

one_blank : (m n : ℕ) → m ≡ suc n → replicate {A = Option Bool} m None ≡ None ∷ replicate n None
one_blank m n h = ap (λ k. replicate {A = Option Bool} k None) h

assumed_excluding : (more chosen : List Bool) (n left total : ℕ) → n ≡ length chosen → total ≡ length more + left → assumed (chosen_table chosen total) (excluding n more) ≡ Some (chosen_table (chosen ++ more) left)
assumed_excluding [] chosen n left total h e =
    let same : total ≡ left = omega arith in
    rw (append-nil chosen, same) refl
assumed_excluding (b ∷ more) chosen n left total h e =
    let k : ℕ = length more + left in
    let t : List (Option Bool) = map Some chosen ++ None ∷ replicate k None in
    let split : chosen_table chosen total ≡ t = ap (λ x. map Some chosen ++ x) (one_blank total k (omega arith)) in
    let free : value_of t (lit n b) ≡ None = ap (option_map (signed b)) (at_the_seam chosen None (replicate k None) n h) in
    ap (λ x. assumed x (excluding n (b ∷ more))) split
    ∙ ap (λ o. by_value o (assumed (with_false t (lit n b)) (excluding (n + 1) more)) (assumed t (excluding (n + 1) more)) None) free
    ∙ ap (λ x. assumed x (excluding (n + 1) more)) (set_at_the_seam chosen None b (replicate k None) n h)
    ∙ assumed_excluding more (chosen ++ b ∷ []) (n + 1) left k (omega (arith, length-append chosen (b ∷ []), h)) refl
    ∙ ap (λ x. Some (chosen_table x left)) (append_assoc chosen (b ∷ []) more)

signed_itself : (b : Bool) → signed b b ≡ false
signed_itself true = refl
signed_itself false = refl

-- a literal that is false is left out
left_out : (t : List (Option Bool)) (l : Lit) (ls : List Lit) → value_of t l ≡ Some false → remaining t (l ∷ ls) ≡ remaining t ls
left_out t l ls is = ap (λ o. if by_value o true false true then l ∷ remaining t ls else remaining t ls) is

none_remains : (more chosen : List Bool) (rest : List (Option Bool)) (n : ℕ) → n ≡ length chosen → remaining (map Some (chosen ++ more) ++ rest) (excluding n more) ≡ []
none_remains [] chosen rest n h = refl
none_remains (b ∷ more) chosen rest n h =
    let t : List (Option Bool) = map Some (chosen ++ b ∷ more) ++ rest in
    let shape : t ≡ map Some chosen ++ Some b ∷ (map Some more ++ rest) = ap (λ x. x ++ rest) (map-append Some chosen (b ∷ more)) ∙ append_assoc (map Some chosen) (Some b ∷ map Some more) rest in
    let here : get_or t n None ≡ Some b = ap (λ x. get_or x n None) shape ∙ at_the_seam chosen (Some b) (map Some more ++ rest) n h in
    let fails : value_of t (lit n b) ≡ Some false = ap (option_map (signed b)) here ∙ ap Some (signed_itself b) in
    left_out t (lit n b) (excluding (n + 1) more) fails
    ∙ subst (λ x. remaining (map Some x ++ rest) (excluding (n + 1) more) ≡ []) (append_assoc chosen (b ∷ []) more) (none_remains more (chosen ++ b ∷ []) rest (n + 1) (omega (arith, length-append chosen (b ∷ []), h)))

reads_filled : (values : List Bool) (rest : List (Option Bool)) (k : ℕ) → k < length values → get_or (map Some values ++ rest) k None ≡ Some (get_or values k false)
reads_filled [] rest k h = absurd (omega arith)
reads_filled (b ∷ values) rest zero h = refl
reads_filled (b ∷ values) rest (suc k) h = reads_filled values rest k (omega arith)

-- nothing remains of a clause that fails
none_remains_of : (values : List Bool) (rest : List (Option Bool)) (lits : List Lit) → AllByRecursion (λ l. l.var < length values) lits → clause_holds values lits ≡ false → remaining (map Some values ++ rest) lits ≡ []
none_remains_of values rest [] h e = refl
none_remains_of values rest (l ∷ ls) h e =
    let both = or_parts (lit_holds values l) (clause_holds values ls) e in
    let t : List (Option Bool) = map Some values ++ rest in
    let fails : value_of t l ≡ Some false = ap (option_map (signed l.negative)) (reads_filled values rest l.var h.0) ∙ ap Some both.0 in
    left_out t l ls fails ∙ none_remains_of values rest ls h.1 both.1

one_remains : (t : List (Option Bool)) (ls : List Lit) (l : Lit) → remaining t ls ≡ [] → value_of t l ≡ None → propagates t (ls ++ l ∷ []) ≡ outcome.Unit l
one_remains t ls l none free =
    let test : Lit → Bool = λ x. by_value (value_of t x) true false true in
    let alone : remaining t (l ∷ []) ≡ l ∷ [] = ap (λ o. if by_value o true false true then l ∷ [] else []) free in
    let shape : remaining t (ls ++ l ∷ []) ≡ l ∷ [] = filter-append test ls (l ∷ []) ∙ ap (λ x. x ++ remaining t (l ∷ [])) none ∙ alone in
    ap (outcome_of t) shape ∙ ap (λ o. by_value o (outcome.Unit l) outcome.Stuck outcome.Stuck) free

-- STEPS THAT ARE RIGHT

in_the_live : (clauses : List (List Lit)) (k : ℕ) → k < length clauses → live_at (map Some clauses) (suc k) ≡ Some (get_or clauses k [])
in_the_live clauses k h = get_or-map Some clauses k [] None h

pub right_by_clause : (vars : ℕ) (clauses : List (List Lit)) (chosen : List Bool) (k number : ℕ) → length chosen ≡ vars → number ≡ suc k → k < length clauses → IsInRange vars (get_or clauses k []) → clause_holds chosen (get_or clauses k []) ≡ false
    → IsRight vars clauses (record { clause = excluding 0 chosen; hints = number ∷ [] })
right_by_clause vars clauses chosen k number count e inside ranges fails =
    let failing : List Lit = get_or clauses k [] in
    let t : List (Option Bool) = chosen_table chosen 0 in
    let made : assumed (replicate vars None) (excluding 0 chosen) ≡ Some t = assumed_excluding chosen [] 0 0 vars refl (omega arith) in
    let ranged : AllByRecursion (λ l. l.var < length chosen) failing = recursion_from_All (λ l. l.var < length chosen) failing (rw count ranges) in
    let conflict : propagates t failing ≡ outcome.Conflict = ap (outcome_of t) (none_remains_of chosen (replicate 0 None) failing ranged fails) in
    let hint : live_at (map Some clauses) number ≡ Some failing = ap (live_at (map Some clauses)) e ∙ in_the_live clauses k inside in
    record {
      in_range = excluding_in_range chosen 0 vars (omega arith);
      no_fault =
          ap (λ o. by_option o (Some 0) (λ t. hint_fault t (live_at (map Some clauses) number ∷ []) 1)) made
          ∙ ap (λ o. hint_fault t (o ∷ []) 1) hint
          ∙ ap (λ o. by_outcome o (behind_conflict [] 1) (λ l. hint_fault (with_true t l) [] (1 + 1)) (Some 1)) conflict;
    }

difference : (n m : ℕ) → n < m → (k : ℕ) × (m ≡ n + suc k)
difference zero zero h = absurd (omega arith)
difference zero (suc m) h = (m, omega arith)
difference (suc n) zero h = absurd (omega arith)
difference (suc n) (suc m) h = let w = difference n m (omega arith) in (w.0, omega (arith, w.1))

pub right_by_both : (vars : ℕ) (clauses : List (List Lit)) (chosen : List Bool) (low high : ℕ) → length chosen < vars → live_at (map Some clauses) low ≡ Some (excluding 0 (chosen ++ false ∷ [])) → live_at (map Some clauses) high ≡ Some (excluding 0 (chosen ++ true ∷ []))
    → IsRight vars clauses (record { clause = excluding 0 chosen; hints = low ∷ high ∷ [] })
right_by_both vars clauses chosen low high few is_low is_high =
    let w = difference (length chosen) vars few in
    let n : ℕ = length chosen in
    let rest : List (Option Bool) = replicate w.0 None in
    let t : List (Option Bool) = map Some chosen ++ None ∷ rest in
    let u : List (Option Bool) = map Some (chosen ++ true ∷ []) ++ rest in
    let live : Live = map Some clauses in
    let made : assumed (replicate vars None) (excluding 0 chosen) ≡ Some t = assumed_excluding chosen [] 0 (suc w.0) vars refl w.1 in
    let front : remaining t (excluding 0 chosen) ≡ [] = none_remains chosen [] (None ∷ rest) 0 refl in
    let free : value_of t (lit n false) ≡ None = ap (option_map (signed false)) (at_the_seam chosen None rest n refl) in
    let unit : propagates t (excluding 0 (chosen ++ false ∷ [])) ≡ outcome.Unit (lit n false) = ap (propagates t) (excluding_push chosen false 0 n (omega arith)) ∙ one_remains t (excluding 0 chosen) (lit n false) front free in
    let written : with_true t (lit n false) ≡ u = set_at_the_seam chosen None true rest n refl in
    let conflict : propagates u (excluding 0 (chosen ++ true ∷ [])) ≡ outcome.Conflict = ap (outcome_of u) (none_remains (chosen ++ true ∷ []) [] rest 0 refl) in
    record {
      in_range = excluding_in_range chosen 0 vars (omega arith);
      no_fault =
          ap (λ o. by_option o (Some 0) (λ t. hint_fault t (live_at live low ∷ live_at live high ∷ []) 1)) made
          ∙ ap (λ o. hint_fault t (o ∷ live_at live high ∷ []) 1) is_low
          ∙ ap (λ o. hint_fault t (Some (excluding 0 (chosen ++ false ∷ [])) ∷ o ∷ []) 1) is_high
          ∙ ap (λ o. by_outcome o (behind_conflict (Some (excluding 0 (chosen ++ true ∷ [])) ∷ []) 1) (λ l. hint_fault (with_true t l) (Some (excluding 0 (chosen ++ true ∷ [])) ∷ []) (1 + 1)) (Some 1)) unit
          ∙ ap (λ x. hint_fault x (Some (excluding 0 (chosen ++ true ∷ [])) ∷ []) (1 + 1)) written
          ∙ ap (λ o. by_outcome o (behind_conflict [] (1 + 1)) (λ l. hint_fault (with_true u l) [] (1 + 1 + 1)) (Some (1 + 1))) conflict;
    }

-- LISTS OF STEPS

one_step_more : (clauses : List (List Lit)) (s : Step) (steps : List Step) → with_steps (clauses ++ s.clause ∷ []) steps ≡ with_steps clauses (s ∷ steps)
one_step_more clauses s steps = append_assoc clauses (s.clause ∷ []) (map clause_of steps)

right_push : (vars : ℕ) (clauses : List (List Lit)) (steps : List Step) (s : Step) → AreRight vars clauses steps → IsRight vars (with_steps clauses steps) s → AreRight vars clauses (steps ++ s ∷ [])
right_push vars clauses [] s h k = (subst (λ cs. IsRight vars cs s) (append-nil clauses) k, tt)
right_push vars clauses (x ∷ steps) s h k =
    (h.0, right_push vars (clauses ++ x.clause ∷ []) steps s h.1 (subst (λ cs. IsRight vars cs s) (sym (one_step_more clauses x steps)) k))

empty_push : (steps : List Step) (s : Step) → some_empty steps ≡ false → is_empty s.clause ≡ false → some_empty (steps ++ s ∷ []) ≡ false
empty_push [] s h k = or_from (is_empty s.clause) false k refl
empty_push (x ∷ steps) s h k =
    let both = or_parts (is_empty x.clause) (some_empty steps) h in
    or_from (is_empty x.clause) (some_empty (steps ++ s ∷ [])) both.0 (empty_push steps s both.1 k)

-- the last step excludes the choice
pub excludes : (formula : Formula) (old new : List Step) (chosen : List Bool) (hints : List ℕ) (s : Step) (number : ℕ) → IsLog formula old → s ≡ record { clause = excluding 0 chosen; hints = hints } → new ≡ old ++ s ∷ []
    → IsRight formula.vars (with_steps formula.clauses old) (record { clause = excluding 0 chosen; hints = hints }) → ((rest : List Bool) → IsModel formula.vars formula.clauses (chosen ++ rest) → ⊥)
    → number ≡ length formula.clauses + length old + 1 → Excludes formula new chosen number
excludes formula old new chosen hints s number log is whole right none last =
    let all : new ≡ old ++ (record { clause = excluding 0 chosen; hints = hints }) ∷ [] = whole ∙ ap (λ x. old ++ x ∷ []) is in
    record {
      front = old;
      hints = hints;
      before = log;
      right = subst (AreRight formula.vars formula.clauses) (sym all) (right_push formula.vars formula.clauses old (record { clause = excluding 0 chosen; hints = hints }) log.right right);
      whole = all;
      last = last;
      none = none;
    }

not_empty_excluding : (chosen : List Bool) (b : Bool) → is_empty (excluding 0 (chosen ++ b ∷ [])) ≡ false
not_empty_excluding [] b = refl
not_empty_excluding (x ∷ chosen) b = refl

-- while a variable is chosen no step has the empty clause
pub still_log : (formula : Formula) (steps : List Step) (chosen longer : List Bool) (b : Bool) (number : ℕ) → longer ≡ chosen ++ b ∷ [] → Excludes formula steps longer number → IsLog formula steps
still_log formula steps chosen longer b number e h = record {
  right = h.right;
  open_yet = ap some_empty h.whole ∙ empty_push h.front (record { clause = excluding 0 longer; hints = h.hints }) h.before.open_yet (ap (λ x. is_empty (excluding 0 x)) e ∙ not_empty_excluding chosen b);
}

-- where a exclusion stands, also once more steps were added
pub exclusion_at : (formula : Formula) (old new : List Step) (chosen longer : List Bool) (b : Bool) (number : ℕ) → longer ≡ chosen ++ b ∷ [] → Excludes formula old longer number → Grows old new
    → live_at (map Some (with_steps formula.clauses new)) number ≡ Some (excluding 0 (chosen ++ b ∷ []))
exclusion_at formula old new chosen longer b number e h g =
    let s : Step = record { clause = excluding 0 longer; hints = h.hints } in
    let front : List (List Lit) = formula.clauses ++ map clause_of h.front in
    let behind : List (List Lit) = map clause_of g.more in
    let steps : map clause_of new ≡ map clause_of h.front ++ excluding 0 longer ∷ behind =
    ap (map clause_of) (g.steps ∙ ap (λ x. x ++ g.more) h.whole ∙ append_assoc h.front (s ∷ []) g.more) ∙ map-append clause_of h.front (s ∷ g.more) in
    let shape : with_steps formula.clauses new ≡ front ++ excluding 0 longer ∷ behind = ap (λ x. formula.clauses ++ x) steps ∙ sym (append_assoc formula.clauses (map clause_of h.front) (excluding 0 longer ∷ behind)) in
    let long : length front ≡ length formula.clauses + length h.front = length-append formula.clauses (map clause_of h.front) ∙ ap (λ n. length formula.clauses + n) (length-map h.front clause_of) in
    let place : number ≡ suc (length front) = omega (arith, h.last, long) in
    let inside : length front < length (front ++ excluding 0 longer ∷ behind) = omega (arith, length-append front (excluding 0 longer ∷ behind)) in
    ap (λ n. live_at (map Some (with_steps formula.clauses new)) n) place
    ∙ ap (λ cs. live_at (map Some cs) (suc (length front))) shape
    ∙ in_the_live (front ++ excluding 0 longer ∷ behind) (length front) inside
    ∙ ap Some (get_or_at front (excluding 0 longer) behind [] (length front) refl)
    ∙ ap (λ x. Some (excluding 0 x)) e

-- AN ACCEPTED DERIVATION

refuted_yet : (b : Bool) → (b || false) ≡ true → b ≡ true
refuted_yet true e = refl
refuted_yet false e = absurd (cc)

or_moved : (a b c : Bool) → (a || (b || c)) ≡ true → ((a || b) || c) ≡ true
or_moved true b c e = refl
or_moved false b c e = e

or_right : (a b : Bool) → b ≡ true → (a || b) ≡ true
or_right true b e = refl
or_right false b e = e

accepted_from : (vars : ℕ) (clauses : List (List Lit)) (steps : List Step) (p : Progress) → p.live ≡ map Some clauses → AreRight vars clauses steps → (p.refuted || some_empty steps) ≡ true → first_fault vars p (map item.Add steps) ≡ None
accepted_from vars clauses [] p e h r =
    ap (λ b. if b then None else Some fault.NotEmpty) (refuted_yet p.refuted r)
accepted_from vars clauses (s ∷ steps) p e h r =
    let fine : step_fault vars p.live s ≡ None = ap (λ live. step_fault vars live s) e ∙ h.0.no_fault in
    let next : Progress = after_step p s in
    let live : next.live ≡ map Some (clauses ++ s.clause ∷ []) = ap (λ x. x ++ Some s.clause ∷ []) e ∙ sym (map-append Some clauses (s.clause ∷ [])) in
    ap (λ b. if b then by_option (step_fault vars p.live s) (first_fault vars next (map item.Add steps)) (λ place. Some (fault.Hint (p.steps + 1) place)) else Some (fault.VarRange (p.steps + 1))) h.0.in_range
    ∙ ap (λ o. by_option o (first_fault vars next (map item.Add steps)) (λ place. Some (fault.Hint (p.steps + 1) place))) fine
    ∙ accepted_from vars (clauses ++ s.clause ∷ []) steps next live h.1 (or_moved p.refuted (is_empty s.clause) (some_empty steps) r)

some_empty_last : (front : List Step) (s : Step) → is_empty s.clause ≡ true → some_empty (front ++ s ∷ []) ≡ true
some_empty_last [] s e = ap (λ b. b || false) e
some_empty_last (x ∷ front) s e = or_right (is_empty x.clause) (some_empty (front ++ s ∷ [])) (some_empty_last front s e)

pub accepted : (formula : Formula) (steps : List Step) (chosen : List Bool) (number : ℕ) (items : List Item) → chosen ≡ [] → Excludes formula steps chosen number → items ≡ map item.Add steps → IsAccepted formula.vars formula.clauses items
accepted formula steps chosen number items e h is =
    let s : Step = record { clause = excluding 0 chosen; hints = h.hints } in
    let last : some_empty steps ≡ true = ap some_empty h.whole ∙ some_empty_last h.front s (ap (λ x. is_empty (excluding 0 x)) e) in
    ap (λ x. first_fault formula.vars (at_first formula.clauses) x) is ∙ accepted_from formula.vars formula.clauses steps (at_first formula.clauses) refl h.right last

none_empty : (steps : List Step) → some_empty steps ≡ false → list_any adds_empty (map item.Add steps) ≡ false
none_empty [] e = refl
none_empty (s ∷ steps) e =
    let both = or_parts (is_empty s.clause) (some_empty steps) e in
    or_from (is_empty s.clause) (list_any adds_empty (map item.Add steps)) both.0 (none_empty steps both.1)

pub ends_empty : (formula : Formula) (steps : List Step) (chosen : List Bool) (number : ℕ) (items : List Item) → chosen ≡ [] → Excludes formula steps chosen number → items ≡ map item.Add steps → EndsEmpty items
ends_empty formula steps chosen number items e h is =
    let s : Step = record { clause = excluding 0 chosen; hints = h.hints } in
    record {
      front = map item.Add h.front;
      last = item.Add s;
      whole = is ∙ ap (map item.Add) h.whole ∙ map-append item.Add h.front (s ∷ []);
      empty = ap (λ x. is_empty (excluding 0 x)) e;
      before = none_empty h.front h.before.open_yet;
    }

-- THE LEAST MODEL

pub found_whole : (formula : Formula) (chosen : List Bool) → length chosen ≡ formula.vars → all_hold chosen formula.clauses ≡ true → IsLeastAfter formula chosen chosen
found_whole formula chosen count holds = record {
  rest = [];
  whole = sym (append-nil chosen);
  model = record { count = count; holds = holds };
  least = λ other model. tt;
}

in_all : (values : List Bool) (clauses : List (List Lit)) (k : ℕ) → k < length clauses → all_hold values clauses ≡ true → clause_holds values (get_or clauses k []) ≡ true
in_all values [] k h e = absurd (omega arith)
in_all values (c ∷ clauses) zero h e = (and_parts (clause_holds values c) (all_hold values clauses) e).0
in_all values (c ∷ clauses) (suc k) h e = in_all values clauses k (omega arith) (and_parts (clause_holds values c) (all_hold values clauses) e).1

-- no model begins with all values where a clause fails
pub none_whole : (formula : Formula) (chosen : List Bool) (k : ℕ) → length chosen ≡ formula.vars → k < length formula.clauses → clause_holds chosen (get_or formula.clauses k []) ≡ false → (rest : List Bool) → IsModel formula.vars formula.clauses (chosen ++ rest) → ⊥
none_whole formula chosen k count inside fails [] model =
    both_ways (clause_holds chosen (get_or formula.clauses k [])) fails (in_all chosen formula.clauses k inside (subst (λ x. all_hold x formula.clauses ≡ true) (append-nil chosen) model.holds))
none_whole formula chosen k count inside fails (b ∷ rest) model = omega (arith, model.count, count, length-append chosen (b ∷ rest))

pub none_both : (formula : Formula) (chosen : List Bool) → length chosen < formula.vars → ((rest : List Bool) → IsModel formula.vars formula.clauses ((chosen ++ false ∷ []) ++ rest) → ⊥) → ((rest : List Bool) → IsModel formula.vars formula.clauses ((chosen ++ true ∷ []) ++ rest) → ⊥)
    → (rest : List Bool) → IsModel formula.vars formula.clauses (chosen ++ rest) → ⊥
none_both formula chosen few low high [] model = omega (arith, model.count, few, length-append chosen [])
none_both formula chosen few low high (false ∷ rest) model = low rest (subst (IsModel formula.vars formula.clauses) (sym (append_assoc chosen (false ∷ []) rest)) model)
none_both formula chosen few low high (true ∷ rest) model = high rest (subst (IsModel formula.vars formula.clauses) (sym (append_assoc chosen (true ∷ []) rest)) model)

too_short : (formula : Formula) (chosen values rest : List Bool) (b : Bool) → values ≡ (chosen ++ b ∷ []) ++ rest → IsModel formula.vars formula.clauses values → IsModel formula.vars formula.clauses (chosen ++ []) → ⊥
too_short formula chosen values rest b whole model other =
    omega (arith, model.count, other.count, ap length whole, length-append (chosen ++ b ∷ []) rest, length-append chosen (b ∷ []), length-append chosen [])

pub found_low : (formula : Formula) (chosen longer values : List Bool) → longer ≡ chosen ++ false ∷ [] → IsLeastAfter formula longer values → IsLeastAfter formula chosen values
found_low formula chosen longer values e found =
    let h : IsLeastAfter formula (chosen ++ false ∷ []) values = subst (λ x. IsLeastAfter formula x values) e found in
    let least : (other : List Bool) → IsModel formula.vars formula.clauses (chosen ++ other) → LexLe (false ∷ h.rest) other =
    λ other. elim other as (λ o. IsModel formula.vars formula.clauses (chosen ++ o) → LexLe (false ∷ h.rest) o) [
      | [] ↦ λ model. absurd (too_short formula chosen values h.rest false h.whole h.model model)
      | b ∷ o ↦ elim b as (λ b. IsModel formula.vars formula.clauses (chosen ++ b ∷ o) → LexLe (false ∷ h.rest) (b ∷ o)) [
        | true ↦ λ model. tt
        | false ↦ λ model. h.least o (subst (IsModel formula.vars formula.clauses) (sym (append_assoc chosen (false ∷ []) o)) model)
      ]
    ] in
    record { rest = false ∷ h.rest; whole = h.whole ∙ append_assoc chosen (false ∷ []) h.rest; model = h.model; least = least }

pub found_high : (formula : Formula) (old : List Step) (chosen lower longer values : List Bool) (low : ℕ) → lower ≡ chosen ++ false ∷ [] → longer ≡ chosen ++ true ∷ [] → Excludes formula old lower low → IsLeastAfter formula longer values → IsLeastAfter formula chosen values
found_high formula old chosen lower longer values low f e excluded_low found =
    let h : IsLeastAfter formula (chosen ++ true ∷ []) values = subst (λ x. IsLeastAfter formula x values) e found in
    let none : (rest : List Bool) → IsModel formula.vars formula.clauses ((chosen ++ false ∷ []) ++ rest) → ⊥ = subst (λ x. (rest : List Bool) → IsModel formula.vars formula.clauses (x ++ rest) → ⊥) f excluded_low.none in
    let least : (other : List Bool) → IsModel formula.vars formula.clauses (chosen ++ other) → LexLe (true ∷ h.rest) other =
    λ other. elim other as (λ o. IsModel formula.vars formula.clauses (chosen ++ o) → LexLe (true ∷ h.rest) o) [
      | [] ↦ λ model. absurd (too_short formula chosen values h.rest true h.whole h.model model)
      | b ∷ o ↦ elim b as (λ b. IsModel formula.vars formula.clauses (chosen ++ b ∷ o) → LexLe (true ∷ h.rest) (b ∷ o)) [
        | true ↦ λ model. h.least o (subst (IsModel formula.vars formula.clauses) (sym (append_assoc chosen (true ∷ []) o)) model)
        | false ↦ λ model. absurd (none o (subst (IsModel formula.vars formula.clauses) (sym (append_assoc chosen (false ∷ []) o)) model))
      ]
    ] in
    record { rest = true ∷ h.rest; whole = h.whole ∙ append_assoc chosen (true ∷ []) h.rest; model = h.model; least = least }

pub from_nothing : (formula : Formula) (chosen values : List Bool) → chosen ≡ [] → IsLeastAfter formula chosen values → IsLeast formula.vars formula.clauses values
from_nothing formula chosen values e found =
    let h : IsLeastAfter formula [] values = subst (λ x. IsLeastAfter formula x values) e found in
    record { model = h.model; least = λ other model. subst (λ v. LexLe v other) (sym h.whole) (h.least other model) }

-- IN THE SPLIT

pub right_at_the_end : (formula : Formula) (steps : List Step) (chosen same : List Bool) (k number : ℕ) → same ≡ chosen → length chosen ≡ formula.vars → number ≡ k + 1 → k < length formula.clauses → IsInRange formula.vars (get_or formula.clauses k []) → clause_holds chosen (get_or formula.clauses k []) ≡ false
    → IsRight formula.vars (with_steps formula.clauses steps) (record { clause = excluding 0 same; hints = number ∷ [] })
right_at_the_end formula steps chosen same k number e count is inside ranges fails =
    let all : List (List Lit) = with_steps formula.clauses steps in
    let behind : List (List Lit) = map clause_of steps in
    let same_clause : get_or all k [] ≡ get_or formula.clauses k [] = get_or_append_left formula.clauses behind [] k inside in
    let within : k < length all = omega (arith, inside, length-append formula.clauses behind) in
    subst (λ x. IsRight formula.vars all (record { clause = excluding 0 x; hints = number ∷ [] })) (sym e)
    (right_by_clause formula.vars all chosen k number count (omega arith) within (subst (IsInRange formula.vars) (sym same_clause) ranges) (ap (clause_holds chosen) same_clause ∙ fails))

pub right_above_both : (formula : Formula) (old new : List Step) (chosen lower longer same : List Bool) (low high : ℕ) → lower ≡ chosen ++ false ∷ [] → longer ≡ chosen ++ true ∷ [] → same ≡ chosen → length chosen < formula.vars
    → Excludes formula old lower low → Grows old new → Excludes formula new longer high → IsRight formula.vars (with_steps formula.clauses new) (record { clause = excluding 0 same; hints = low ∷ high ∷ [] })
right_above_both formula old new chosen lower longer same low high e f g few is_low grows is_high =
    subst (λ x. IsRight formula.vars (with_steps formula.clauses new) (record { clause = excluding 0 x; hints = low ∷ high ∷ [] })) (sym g)
    (right_by_both formula.vars (with_steps formula.clauses new) chosen low high few
    (exclusion_at formula old new chosen lower false low e is_low grows)
    (exclusion_at formula new new chosen longer true high f is_high (record { more = []; steps = sym (append-nil new) })))

pub none_above_both : (formula : Formula) (old new : List Step) (chosen lower longer same : List Bool) (low high : ℕ) → lower ≡ chosen ++ false ∷ [] → longer ≡ chosen ++ true ∷ [] → same ≡ chosen → length chosen < formula.vars
    → Excludes formula old lower low → Excludes formula new longer high → (rest : List Bool) → IsModel formula.vars formula.clauses (same ++ rest) → ⊥
none_above_both formula old new chosen lower longer same low high e f g few is_low is_high =
    let Not : List Bool → Type 0 = λ x. (rest : List Bool) → IsModel formula.vars formula.clauses (x ++ rest) → ⊥ in
    subst Not (sym g) (none_both formula chosen few (subst Not e is_low.none) (subst Not f is_high.none))

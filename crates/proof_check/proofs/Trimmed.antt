-- A trimmed derivation is accepted.
use Rattle.std.proofs.Common.{◌≡◌, ◌≢◌, ◌<◌, ◌≤◌, ◌+◌, ◌-◌, ◌||◌, ◌&&◌, not, eqb, ℕ, zero, suc, Bool, true, false, Option, Some, None, List, [], ◌∷◌, ◌++◌, map, length, arith, refl, ap, sym, ◌∙◌, subst, replicate, if◌then◌else◌, inl, inr}
use Rattle.std.specs.List.{filter, range_with_len}
use Rattle.std.proofs.lemmas.Bool.{cond-true, cond-false, or_left, or_right, or_parts, and_parts, and_from, and_right, or_from, cases_eq, both_ways, ne_eqb, eq-eqb, lt-ltb}
use Rattle.std.proofs.lemmas.List.{length_push, length-map}
use Rattle.cnf.specs.declared.lit.Lit.{Lit}
use Rattle.certificates.specs.declared.derivation.Step.{Step}
use Rattle.certificates.specs.declared.derivation.Item.{Item}
use Rattle.certificates.specs.declared.derivation.Item.TheVariants as item
use Rattle.proof_check.specs.declared.fault.CheckFault.TheVariants as fault
use Rattle.proof_check.specs.declared.table.Outcome.TheVariants as outcome
use Rattle.proof_check.specs.Propagation.{assumed, propagates, by_outcome, behind_conflict, hint_fault}
use Rattle.proof_check.specs.Values.{with_true}
use Rattle.proof_check.specs.Derivations.{Live, live_at, without, without_all, by_option, fault_by, step_fault, delete_fault, is_in_range, is_empty, Progress, after_step, after_delete, first_fault, at_first}
use Rattle.proof_check.specs.Trimming.{steps_to_empty, names, is_end, is_named, is_needed, is_kept, new_number, last_named, deletion, needed_items, renumbered}
use Rattle.proof_check.specs.Refutation.{TrimmedAreAccepted}
use Rattle.proof_check.proofs.Sound.{no_fault, if_none}
use Rattle.proof_check.proofs.Renumbering.{new_number-kept, new_number-left, new_numbers_differ, live_at-without, length-without_all, without_all_was, live_at-push, live_at-last, live_at-pushed, live_at-below, AllName, AllName-at, same_hinted}

-- hints without a fault all name clauses
hints_name : (t : List (Option Bool)) (hinted : List (Option (List Lit))) (place : ℕ) → hint_fault t hinted place ≡ None → AllName hinted
hints_name t [] place e = tt
hints_name t (None ∷ hinted) place e = absurd (cc)
hints_name t (Some c ∷ hinted) place e =
    elim (propagates t c) as (λ o. by_outcome o (behind_conflict hinted place) (λ l. hint_fault (with_true t l) hinted (place + 1)) (Some place) ≡ None → AllName hinted) [
      | outcome.Conflict ↦ elim hinted as (λ hs. behind_conflict hs place ≡ None → AllName hs) [ [] ↦ λ x. tt | h ∷ hs ↦ λ x. absurd (cc) ]
      | outcome.Unit l ↦ λ x. hints_name (with_true t l) hinted (place + 1) x
      | outcome.Stuck ↦ λ x. absurd (cc)
    ] e

step_names : (vars : ℕ) (hinted : List (Option (List Lit))) (lits : List Lit) → fault_by vars hinted lits ≡ None → AllName hinted
step_names vars hinted lits e =
    elim (assumed (replicate vars None) lits) as (λ o. by_option o (Some 0) (λ t. hint_fault t hinted 1) ≡ None → AllName hinted) [
      | None ↦ λ x. absurd (cc)
      | Some t ↦ λ x. hints_name t hinted 1 x
    ] e

-- items without a fault, put together
add_right : (vars : ℕ) (q : Progress) (s : Step) (items : List Item) → is_in_range vars s.clause ≡ true → step_fault vars q.live s ≡ None → first_fault vars (after_step q s) items ≡ None → first_fault vars q (item.Add s ∷ items) ≡ None
add_right vars q s items ranged right rest =
    ap (λ b. if b then by_option (step_fault vars q.live s) (first_fault vars (after_step q s) items) (λ place. Some (fault.Hint (q.steps + 1) place)) else Some (fault.VarRange (q.steps + 1))) ranged
    ∙ (ap (λ o. by_option o (first_fault vars (after_step q s) items) (λ place. Some (fault.Hint (q.steps + 1) place))) right ∙ rest)

delete_right : (vars : ℕ) (q : Progress) (ns : List ℕ) (items : List Item) → delete_fault q.live ns 1 ≡ None → first_fault vars (after_delete q ns) items ≡ None → first_fault vars q (item.Delete ns ∷ items) ≡ None
delete_right vars q ns items right rest =
    ap (λ o. by_option o (first_fault vars (after_delete q ns) items) (λ place. Some (fault.NotLive (q.items + 1) place))) right ∙ rest

-- NUMBERS THAT ARE DELETED

record Droppable (kept : ℕ → Bool) (p : ℕ → Bool) (live : Live) (from : ℕ) : Type 0 where
  keeps : (n : ℕ) → from ≤ n → p n ≡ true → kept n ≡ true
  lives : (n : ℕ) → from ≤ n → p n ≡ true → (c : List Lit) × (live_at live (new_number kept n) ≡ Some c)

Droppable-next : (kept p : ℕ → Bool) (live : Live) (a : ℕ) → Droppable kept p live a → p a ≡ true → Droppable kept p (without live (new_number kept a)) (a + 1)
Droppable-next kept p live a h here = record {
  keeps = λ n above e. h.keeps n (omega arith) e;
  lives = λ n above e.
      let found = h.lives n (omega arith) e in
      let ne : a ≢ n = λ same. omega (arith, same, above) in
      (found.0, live_at-without live (new_number kept a) (new_number kept n) (new_numbers_differ kept a n ne (h.keeps a (omega arith) here) (h.keeps n (omega arith) e)) ∙ found.1);
}

Droppable-skip : (kept p : ℕ → Bool) (live : Live) (a : ℕ) → Droppable kept p live a → Droppable kept p live (a + 1)
Droppable-skip kept p live a h = record {
  keeps = λ n above e. h.keeps n (omega arith) e;
  lives = λ n above e. h.lives n (omega arith) e;
}

dropped_are_live : (kept p : ℕ → Bool) (len a place : ℕ) (live : Live) → Droppable kept p live a → delete_fault live (map (new_number kept) (filter p (range_with_len a len))) place ≡ None
dropped_are_live kept p zero a place live h = refl
dropped_are_live kept p (suc len) a place live h =
    elim (p a) as (λ b. p a ≡ b → delete_fault live (map (new_number kept) (if b then a ∷ filter p (range_with_len (a + 1) len) else filter p (range_with_len (a + 1) len))) place ≡ None) [
      | true ↦ λ e.
          let found = h.lives a (omega arith) e in
          ap (λ o. by_option o (Some place) (λ c. delete_fault (without live (new_number kept a)) (map (new_number kept) (filter p (range_with_len (a + 1) len))) (place + 1))) found.1
          ∙ dropped_are_live kept p len (a + 1) (place + 1) (without live (new_number kept a)) (Droppable-next kept p live a h e)
      | false ↦ λ e. dropped_are_live kept p len (a + 1) place live (Droppable-skip kept p live a h)
    ] refl

others_stay : (kept p : ℕ → Bool) (len a m : ℕ) (live : Live) → ((n : ℕ) → p n ≡ true → kept n ≡ true) → kept m ≡ true → p m ≡ false → live_at (without_all live (map (new_number kept) (filter p (range_with_len a len)))) (new_number kept m) ≡ live_at live (new_number kept m)
others_stay kept p zero a m live h km pm = refl
others_stay kept p (suc len) a m live h km pm =
    elim (p a) as (λ b. p a ≡ b → live_at (without_all live (map (new_number kept) (if b then a ∷ filter p (range_with_len (a + 1) len) else filter p (range_with_len (a + 1) len)))) (new_number kept m) ≡ live_at live (new_number kept m)) [
      | true ↦ λ e.
          let ne : a ≢ m = λ same. both_ways (p m) pm (ap p (sym same) ∙ e) in
          others_stay kept p len (a + 1) m (without live (new_number kept a)) h km pm
          ∙ live_at-without live (new_number kept a) (new_number kept m) (new_numbers_differ kept a m ne (h a e) km)
      | false ↦ λ e. others_stay kept p len (a + 1) m live h km pm
    ] refl

-- THE WALK

-- the old derivation has come as far as the steps that follow, and the new one is behind it
record Follows (kept : ℕ → Bool) (old new : Live) (number : ℕ) (steps : List Step) : Type 0 where
  next : number ≡ length old + 1
  count : length new ≡ new_number kept (length old)
  keeps : (i : ℕ) → number ≤ i → kept i ≡ is_kept number steps i
  closed : (h : ℕ) → h < number → is_named h number steps ≡ true → kept h ≡ true
  same : (h : ℕ) (c : List Lit) → is_named h number steps ≡ true → live_at old h ≡ Some c → live_at new (new_number kept h) ≡ Some c

named_here : (h number : ℕ) (step : Step) (later : List Step) → is_needed number later ≡ true → names step h ≡ true → is_named h number (step ∷ later) ≡ true
named_here h number step later needed e =
    or_left (is_needed number later && names step h) (is_named h (number + 1) later) (and_from (is_needed number later) (names step h) needed e)

named_later : (h number : ℕ) (step : Step) (later : List Step) → is_named h (number + 1) later ≡ true → is_named h number (step ∷ later) ≡ true
named_later h number step later e = or_right (is_needed number later && names step h) (is_named h (number + 1) later) e

kept_first : (kept : ℕ → Bool) (old new : Live) (number : ℕ) (step : Step) (later : List Step) → Follows kept old new number (step ∷ later) → kept number ≡ is_needed number later
kept_first kept old new number step later h =
    h.keeps number (omega arith) ∙ cond-true (eqb number number) (is_needed number later) (is_kept (number + 1) later number) (eq-eqb number number refl)

kept_others : (kept : ℕ → Bool) (old new : Live) (number : ℕ) (step : Step) (later : List Step) → Follows kept old new number (step ∷ later) → (i : ℕ) → number + 1 ≤ i → kept i ≡ is_kept (number + 1) later i
kept_others kept old new number step later h i above =
    h.keeps i (omega arith) ∙ cond-false (eqb i number) (is_needed number later) (is_kept (number + 1) later i) (ne_eqb i number (λ e. omega (arith, e, above)))

Follows-delete : (kept : ℕ → Bool) (old new : Live) (number : ℕ) (steps : List Step) (ns : List ℕ) → Follows kept old new number steps → Follows kept (without_all old ns) new number steps
Follows-delete kept old new number steps ns h =
    let long = length-without_all old ns in
    record {
      next = h.next ∙ ap (λ n. n + 1) (sym long);
      count = h.count ∙ ap (new_number kept) (sym long);
      keeps = h.keeps;
      closed = h.closed;
      same = λ n c named is. h.same n c named (without_all_was old ns n c is);
    }

-- a step that is not needed
Follows-left : (kept : ℕ → Bool) (old new : Live) (number : ℕ) (step : Step) (later : List Step) → Follows kept old new number (step ∷ later) → is_needed number later ≡ false → Follows kept (old ++ Some step.clause ∷ []) new (number + 1) later
Follows-left kept old new number step later h left =
    let long : length (old ++ Some step.clause ∷ []) ≡ length old + 1 = length_push old (Some step.clause) in
    let unnamed : is_named number (number + 1) later ≡ false = (or_parts (is_end later) (is_named number (number + 1) later) left).1 in
    let not_first : (n : ℕ) → is_named n (number + 1) later ≡ true → n ≢ number = λ n named e. both_ways (is_named number (number + 1) later) unnamed (ap (λ x. is_named x (number + 1) later) (sym e) ∙ named) in
    record {
      next = ap (λ n. n + 1) (h.next ∙ sym long);
      count =
          let out : kept (length old + 1) ≡ false = ap kept (sym h.next) ∙ kept_first kept old new number step later h ∙ left in
          h.count ∙ sym (new_number-left kept (length old) out) ∙ ap (new_number kept) (sym long);
      keeps = kept_others kept old new number step later h;
      closed = λ n below named.
          let ne : n ≢ number = not_first n named in
          h.closed n (omega arith) (named_later n number step later named);
      same = λ n c named is.
          let ne : n ≢ length old + 1 = λ e. not_first n named (e ∙ sym h.next) in
          h.same n c (named_later n number step later named) (live_at-pushed old (Some step.clause) n c is ne);
    }

-- what a needed step names for the last time
abbrev is_last : ℕ → Step → List Step → ℕ → Bool
is_last number step later n = names step n && not (is_named n (number + 1) later)

last_is_kept : (kept : ℕ → Bool) (old new : Live) (number : ℕ) (step : Step) (later : List Step) → Follows kept old new number (step ∷ later) → is_needed number later ≡ true → AllName (map (live_at old) step.hints) → (n : ℕ) → is_last number step later n ≡ true → kept n ≡ true
last_is_kept kept old new number step later h needed all n e =
    let named : names step n ≡ true = (and_parts (names step n) (not (is_named n (number + 1) later)) e).0 in
    let found = AllName-at old step.hints n all named in
    let below : n < length old + 1 = live_at-below old n found.0 found.1 in
    h.closed n (subst (λ k. n < k) (sym h.next) below) (named_here n number step later needed named)

last_are_live : (kept : ℕ → Bool) (old new : Live) (number : ℕ) (step : Step) (later : List Step) (from : ℕ) → Follows kept old new number (step ∷ later) → is_needed number later ≡ true → AllName (map (live_at old) step.hints) → Droppable kept (is_last number step later) (new ++ Some step.clause ∷ []) from
last_are_live kept old new number step later from h needed all = record {
  keeps = λ n above e. last_is_kept kept old new number step later h needed all n e;
  lives = λ n above e.
      let named : names step n ≡ true = (and_parts (names step n) (not (is_named n (number + 1) later)) e).0 in
      let found = AllName-at old step.hints n all named in
      (found.0, live_at-push new (Some step.clause) (new_number kept n) found.0 (h.same n found.0 (named_here n number step later needed named) found.1));
}

-- a step that is needed, and what is named no more behind it
Follows-kept : (given : ℕ) (kept : ℕ → Bool) (old new : Live) (number : ℕ) (step : Step) (later : List Step) → Follows kept old new number (step ∷ later) → is_needed number later ≡ true → AllName (map (live_at old) step.hints)
    → Follows kept (old ++ Some step.clause ∷ []) (without_all (new ++ Some step.clause ∷ []) (map (new_number kept) (last_named given number step later))) (number + 1) later
Follows-kept given kept old new number step later h needed all =
    let clause = Some step.clause in
    let dropped = map (new_number kept) (last_named given number step later) in
    let long : length (old ++ clause ∷ []) ≡ length old + 1 = length_push old clause in
    let here : kept number ≡ true = kept_first kept old new number step later h ∙ needed in
    let counted : new_number kept (length old + 1) ≡ new_number kept (length old) + 1 = new_number-kept kept (length old) (ap kept (sym h.next) ∙ here) in
    let closed : (n : ℕ) → n < number + 1 → is_named n (number + 1) later ≡ true → kept n ≡ true = λ n below named. elim (cases_eq n number) [
      | inl e ↦ ap kept e ∙ here
      | inr ne ↦ h.closed n (omega arith) (named_later n number step later named)
    ] in
    record {
      next = ap (λ n. n + 1) (h.next ∙ sym long);
      count = length-without_all (new ++ clause ∷ []) dropped ∙ length_push new clause ∙ ap (λ n. n + 1) h.count ∙ sym counted ∙ ap (new_number kept) (sym long);
      keeps = kept_others kept old new number step later h;
      closed = closed;
      same = λ n c named is.
          let below : n < length (old ++ clause ∷ []) + 1 = live_at-below (old ++ clause ∷ []) n c is in
          let kept_n : kept n ≡ true = closed n (omega (arith, below, long, h.next)) named in
          let not_last : is_last number step later n ≡ false = and_right (names step n) (not (is_named n (number + 1) later)) (ap not named) in
          others_stay kept (is_last number step later) (number - (given + 1)) (given + 1) n (new ++ clause ∷ []) (last_is_kept kept old new number step later h needed all) kept_n not_last
          ∙ elim (cases_eq n (length old + 1)) as (λ _. live_at (new ++ clause ∷ []) (new_number kept n) ≡ Some c) [
            | inl e ↦
                let place : new_number kept n ≡ length new + 1 = ap (new_number kept) e ∙ counted ∙ ap (λ k. k + 1) (sym h.count) in
                live_at-last new clause (new_number kept n) place ∙ (sym (live_at-last old clause n e) ∙ is)
            | inr ne ↦ live_at-push new clause (new_number kept n) c (h.same n c (named_later n number step later named) (live_at-pushed old clause n c is ne))
          ];
    }

with_deletion : (vars : ℕ) (q : Progress) (f : ℕ → ℕ) (ns : List ℕ) (items : List Item) → delete_fault q.live (map f ns) 1 ≡ None → ((r : Progress) → r.live ≡ without_all q.live (map f ns) → first_fault vars r (map (renumbered f) items) ≡ None)
    → first_fault vars q (map (renumbered f) (deletion ns ++ items)) ≡ None
with_deletion vars q f [] items right rest = rest q refl
with_deletion vars q f (n ∷ ns) items right rest =
    delete_right vars q (map f (n ∷ ns)) (map (renumbered f) items) right (rest (after_delete q (map f (n ∷ ns))) refl)

abbrev renumbered_step : (ℕ → ℕ) → Step → Step
renumbered_step f step = record { clause = step.clause; hints = map f step.hints }

renumbered_right : (vars : ℕ) (kept : ℕ → Bool) (old new : Live) (number : ℕ) (step : Step) (later : List Step) → Follows kept old new number (step ∷ later) → is_needed number later ≡ true → step_fault vars old step ≡ None → step_fault vars new (renumbered_step (new_number kept) step) ≡ None
renumbered_right vars kept old new number step later h needed e =
    let all = step_names vars (map (live_at old) step.hints) step.clause e in
    ap (λ hinted. fault_by vars hinted step.clause)
    (same_hinted old new (new_number kept) step.hints all (λ n named c is. h.same n c (named_here n number step later needed named) is))
    ∙ e

one_step : (vars given : ℕ) (kept : ℕ → Bool) (old : Live) (q : Progress) (number : ℕ) (step : Step) (later : List Step)
    → is_end later ≡ false → Follows kept old q.live number (step ∷ later) → is_in_range vars step.clause ≡ true → step_fault vars old step ≡ None
    → ((r : Progress) → Follows kept (old ++ Some step.clause ∷ []) r.live (number + 1) later → first_fault vars r (map (renumbered (new_number kept)) (needed_items given (number + 1) later)) ≡ None)
    → first_fault vars q (map (renumbered (new_number kept)) (needed_items given number (step ∷ later))) ≡ None
one_step vars given kept old q number step later more h ranged e rest =
    let f = new_number kept in
    let others = needed_items given (number + 1) later in
    let dropped = last_named given number step later in
    elim (is_needed number later) as (λ b. is_needed number later ≡ b → first_fault vars q (map (renumbered f) (if b then item.Add step ∷ ((if is_end later then [] else deletion dropped) ++ others) else others)) ≡ None) [
      | true ↦ λ needed.
          let all = step_names vars (map (live_at old) step.hints) step.clause e in
          let after = after_step q (renumbered_step f step) in
          subst (λ b. first_fault vars q (map (renumbered f) (item.Add step ∷ ((if b then [] else deletion dropped) ++ others))) ≡ None) (sym more)
          (add_right vars q (renumbered_step f step) (map (renumbered f) (deletion dropped ++ others)) ranged (renumbered_right vars kept old q.live number step later h needed e)
          (with_deletion vars after f dropped others
          (dropped_are_live kept (is_last number step later) (number - (given + 1)) (given + 1) 1 after.live (last_are_live kept old q.live number step later (given + 1) h needed all))
          (λ r same. rest r (subst (λ live. Follows kept (old ++ Some step.clause ∷ []) live (number + 1) later) (sym same) (Follows-kept given kept old q.live number step later h needed all)))))
      | false ↦ λ left. rest q (Follows-left kept old q.live number step later h left)
    ] refl

last_step : (vars given : ℕ) (kept : ℕ → Bool) (old : Live) (q : Progress) (number : ℕ) (step : Step)
    → Follows kept old q.live number (step ∷ []) → is_empty step.clause ≡ true → is_in_range vars step.clause ≡ true → step_fault vars old step ≡ None
    → first_fault vars q (map (renumbered (new_number kept)) (needed_items given number (step ∷ []))) ≡ None
last_step vars given kept old q number step h empty ranged e =
    add_right vars q (renumbered_step (new_number kept) step) [] ranged (renumbered_right vars kept old q.live number step [] h refl e)
    (ap (λ b. if b then None else Some fault.NotEmpty) (or_right q.refuted (is_empty step.clause) empty))

more_come : (vars : ℕ) (items : List Item) (p : Progress) → p.refuted ≡ false → first_fault vars p items ≡ None → is_end (steps_to_empty items) ≡ false
more_come vars [] p open_yet e = absurd (both_ways p.refuted open_yet (if_none p.refuted None fault.NotEmpty e).0)
more_come vars (item.Add step ∷ items) p open_yet e =
    elim (is_empty step.clause) as (λ b. is_end (if b then step ∷ [] else step ∷ steps_to_empty items) ≡ false) [ true ↦ refl | false ↦ refl ]
more_come vars (item.Delete ns ∷ items) p open_yet e =
    let parts = no_fault (delete_fault p.live ns 1) (first_fault vars (after_delete p ns) items) (λ place. fault.NotLive (p.items + 1) place) e in
    more_come vars items (after_delete p ns) open_yet parts.1

walk : (vars given : ℕ) (kept : ℕ → Bool) (items : List Item) (p q : Progress) (number : ℕ) → Follows kept p.live q.live number (steps_to_empty items) → p.refuted ≡ false → first_fault vars p items ≡ None
    → first_fault vars q (map (renumbered (new_number kept)) (needed_items given number (steps_to_empty items))) ≡ None
walk vars given kept [] p q number h open_yet e =
    absurd (both_ways p.refuted open_yet (if_none p.refuted None fault.NotEmpty e).0)
walk vars given kept (item.Add step ∷ items) p q number h open_yet e =
    let f = new_number kept in
    let ranged = if_none (is_in_range vars step.clause) (by_option (step_fault vars p.live step) (first_fault vars (after_step p step) items) (λ place. Some (fault.Hint (p.steps + 1) place))) (fault.VarRange (p.steps + 1)) e in
    let parts = no_fault (step_fault vars p.live step) (first_fault vars (after_step p step) items) (λ place. fault.Hint (p.steps + 1) place) ranged.1 in
    elim (is_empty step.clause) as (λ b. is_empty step.clause ≡ b → Follows kept p.live q.live number (if b then step ∷ [] else step ∷ steps_to_empty items) → first_fault vars q (map (renumbered f) (needed_items given number (if b then step ∷ [] else step ∷ steps_to_empty items))) ≡ None) [
      | true ↦ λ empty follows. last_step vars given kept p.live q number step follows empty ranged.0 parts.0
      | false ↦ λ some follows.
          let still : (p.refuted || is_empty step.clause) ≡ false = or_from p.refuted (is_empty step.clause) open_yet some in
          one_step vars given kept p.live q number step (steps_to_empty items) (more_come vars items (after_step p step) still parts.1) follows ranged.0 parts.0
          (λ r next. walk vars given kept items (after_step p step) r (number + 1) next still parts.1)
    ] refl h
walk vars given kept (item.Delete ns ∷ items) p q number h open_yet e =
    let parts = no_fault (delete_fault p.live ns 1) (first_fault vars (after_delete p ns) items) (λ place. fault.NotLive (p.items + 1) place) e in
    walk vars given kept items (after_delete p ns) q number (Follows-delete kept p.live q.live number (steps_to_empty items) ns h) open_yet parts.1

-- THE START

pub is_kept-below : (number : ℕ) (steps : List Step) (h : ℕ) → h < number → is_kept number steps h ≡ true
is_kept-below number [] h below = lt-ltb h number below
is_kept-below number (step ∷ later) h below =
    cond-false (eqb h number) (is_needed number later) (is_kept (number + 1) later h) (ne_eqb h number (λ e. omega (arith, e, below)))
    ∙ is_kept-below (number + 1) later h (omega arith)

pub all_kept : (kept : ℕ → Bool) (n : ℕ) → ((h : ℕ) → h < n + 1 → kept h ≡ true) → new_number kept n ≡ n
all_kept kept zero h = refl
all_kept kept (suc n) h =
    let before = all_kept kept n (λ k below. h k (omega arith)) in
    let here : new_number kept (suc n) ≡ new_number kept n + 1 = cond-true (kept (suc n)) (new_number kept n + 1) (new_number kept n) (h (suc n) (omega arith)) in
    omega (arith, before, here)

Follows-start : (clauses : List (List Lit)) (steps : List Step) → Follows (is_kept (length clauses + 1) steps) (map Some clauses) (map Some clauses) (length clauses + 1) steps
Follows-start clauses steps =
    let kept = is_kept (length clauses + 1) steps in
    let long : length (map {B = Option (List Lit)} Some clauses) ≡ length clauses = length-map clauses Some in
    record {
      next = ap (λ n. n + 1) (sym long);
      count = sym (all_kept kept (length (map Some clauses)) (λ h below. is_kept-below (length clauses + 1) steps h (omega (arith, below, long))));
      keeps = λ i above. refl;
      closed = λ h below named. is_kept-below (length clauses + 1) steps h below;
      same = λ h c named is.
          let below : h < length (map {B = Option (List Lit)} Some clauses) + 1 = live_at-below (map Some clauses) h c is in
          ap (live_at (map Some clauses)) (all_kept kept h (λ k under. is_kept-below (length clauses + 1) steps k (omega (arith, below, under, long)))) ∙ is;
    }

pub trimmed_are_accepted : TrimmedAreAccepted
trimmed_are_accepted vars clauses items e =
    walk vars (length clauses) (is_kept (length clauses + 1) (steps_to_empty items)) items (at_first clauses) (at_first clauses) (length clauses + 1) (Follows-start clauses (steps_to_empty items)) refl e

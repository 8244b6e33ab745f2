-- A trimmed derivation has a text where the whole one has.
use Rattle.std.proofs.Common.{◌≡◌, ◌<◌, ◌+◌, ◌-◌, ◌&&◌, not, eqb, ℕ, true, false, List, [], ◌∷◌, ◌++◌, map, length, replicate, arith, refl, subst, inl, inr, if◌then◌else◌}
use Rattle.std.specs.List.{All, filter, list_any, range_with_len}
use Rattle.std.proofs.lemmas.Bool.{and_parts, or_cases, eqb-true}
use Rattle.std.proofs.lemmas.List.{length-replicate}
use Rattle.std.proofs.lemmas.List.Elements.{All-nil, All-cons, All-head, All-tail, All-map, All-weaker, filter_passes}
use Rattle.cnf.specs.declared.lit.Lit.{Lit}
use Rattle.certificates.specs.declared.derivation.Step.{Step}
use Rattle.certificates.specs.declared.derivation.Item.{Item}
use Rattle.certificates.specs.declared.derivation.Item.TheVariants as item
use Rattle.certificates.specs.Writable.{IsWritableNumber, IsWritableStep, IsWritableItem, IsWritable}
use Rattle.proof_check.specs.Derivations.{IsAccepted, is_empty}
use Rattle.proof_check.specs.Trimming.{steps_to_empty, names, is_end, is_named, is_needed, is_kept, new_number, last_named, deletion, needed_items, renumbered, trimmed}
use Rattle.proof_check.proofs.Sound.{refuted_have_no_model}
use Rattle.proof_check.proofs.Renumbering.{new_number-rises, new_number-le}
use Rattle.proof_check.proofs.Trimmed.{is_kept-below, all_kept}

-- new numbers of numbers that can be written can be written
record Fits (f : ℕ → ℕ) : Type 0 where
  number : (n : ℕ) → IsWritableNumber n → IsWritableNumber (f n)

writable_numbers : (f : ℕ → ℕ) (ns : List ℕ) → Fits f → All IsWritableNumber ns → All IsWritableNumber (map f ns)
writable_numbers f ns fits h = All-map IsWritableNumber f ns (All-weaker IsWritableNumber (λ n. IsWritableNumber (f n)) fits.number ns h)

named_number : (P : ℕ → Type 0) (hints : List ℕ) (n : ℕ) → All P hints → list_any (λ h. eqb h n) hints ≡ true → P n
named_number P [] n h e = absurd (cc)
named_number P (x ∷ hints) n h e = elim (or_cases (eqb x n) (list_any (λ y. eqb y n) hints) e) [
  | inl here ↦ subst P (eqb-true x n here) (All-head P x hints h)
  | inr later ↦ named_number P hints n (All-tail P x hints h) later
]

writable_step : (f : ℕ → ℕ) (step : Step) → Fits f → IsWritableStep step → IsWritableItem (renumbered f (item.Add step))
writable_step f step fits h = record { vars = h.vars; hints = writable_numbers f step.hints fits h.hints }

writable_deletion : (f : ℕ → ℕ) (ns : List ℕ) (items : List Item) → Fits f → All IsWritableNumber ns → IsWritable (map (renumbered f) items) → IsWritable (map (renumbered f) (deletion ns ++ items))
writable_deletion f [] items fits h rest = rest
writable_deletion f (n ∷ ns) items fits h rest =
    All-cons IsWritableItem (item.Delete (map f (n ∷ ns))) (map (renumbered f) items) (record { some = omega arith; all = writable_numbers f (n ∷ ns) fits h }) rest

last_writable : (given number : ℕ) (step : Step) (later : List Step) → IsWritableStep step → All IsWritableNumber (last_named given number step later)
last_writable given number step later h =
    let p = λ (n : ℕ). names step n && not (is_named n (number + 1) later) in
    let range = range_with_len (given + 1) (number - (given + 1)) in
    All-weaker (λ n. p n ≡ true) IsWritableNumber (λ n e. named_number IsWritableNumber step.hints n h.hints (and_parts (names step n) (not (is_named n (number + 1) later)) e).0) (filter p range) (filter_passes p range)

writable_needed : (f : ℕ → ℕ) (given number : ℕ) (steps : List Step) → Fits f → All IsWritableStep steps → IsWritable (map (renumbered f) (needed_items given number steps))
writable_needed f given number [] fits h = All-nil IsWritableItem
writable_needed f given number (step ∷ later) fits h =
    let here = All-head IsWritableStep step later h in
    let others = needed_items given (number + 1) later in
    let rest = writable_needed f given (number + 1) later fits (All-tail IsWritableStep step later h) in
    let dropped = last_named given number step later in
    let list : IsWritable (map (renumbered f) ((if is_end later then [] else deletion dropped) ++ others)) =
    elim (is_end later) as (λ b. IsWritable (map (renumbered f) ((if b then [] else deletion dropped) ++ others))) [
      | true ↦ rest
      | false ↦ writable_deletion f dropped others fits (last_writable given number step later here) rest
    ] in
    elim (is_needed number later) as (λ b. IsWritable (map (renumbered f) (if b then item.Add step ∷ ((if is_end later then [] else deletion dropped) ++ others) else others))) [
      | true ↦ All-cons IsWritableItem (renumbered f (item.Add step)) (map (renumbered f) ((if is_end later then [] else deletion dropped) ++ others)) (writable_step f step fits here) list
      | false ↦ rest
    ]

writable_steps : (items : List Item) → IsWritable items → All IsWritableStep (steps_to_empty items)
writable_steps [] h = All-nil IsWritableStep
writable_steps (item.Add step ∷ items) h =
    let here : IsWritableStep step = All-head IsWritableItem (item.Add step) items h in
    elim (is_empty step.clause) as (λ b. All IsWritableStep (if b then step ∷ [] else step ∷ steps_to_empty items)) [
      | true ↦ All-cons IsWritableStep step [] here (All-nil IsWritableStep)
      | false ↦ All-cons IsWritableStep step (steps_to_empty items) here (writable_steps items (All-tail IsWritableItem (item.Add step) items h))
    ]
writable_steps (item.Delete ns ∷ items) h = writable_steps items (All-tail IsWritableItem (item.Delete ns) items h)

some_given : (vars : ℕ) (clauses : List (List Lit)) (items : List Item) → IsAccepted vars clauses items → 0 < length clauses
some_given vars [] items e = absurd (refuted_have_no_model vars [] items (replicate vars false) e (record { count = length-replicate vars false; holds = refl }))
some_given vars (c ∷ clauses) items e = omega arith

Fits-new : (given : ℕ) (steps : List Step) → 0 < given → Fits (new_number (is_kept (given + 1) steps))
Fits-new given steps some = record {
  number = λ n h.
      let kept = is_kept (given + 1) steps in
      let first : new_number kept 1 ≡ 1 = all_kept kept 1 (λ k low. is_kept-below (given + 1) steps k (omega (arith, low, some))) in
      let low = new_number-rises kept 1 n h.0 in
      let high = new_number-le kept n in
      (omega (arith, first, low), omega (arith, high, h.1));
}

pub trimmed_is_writable : (vars : ℕ) (clauses : List (List Lit)) (items : List Item) → IsAccepted vars clauses items → IsWritable items → IsWritable (trimmed (length clauses) items)
trimmed_is_writable vars clauses items e h =
    let steps = steps_to_empty items in
    writable_needed (new_number (is_kept (length clauses + 1) steps)) (length clauses) (length clauses + 1) steps (Fits-new (length clauses) steps (some_given vars clauses items e)) (writable_steps items h)

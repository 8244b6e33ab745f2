-- The tests of functions and relations hold exactly where values and facts are those of a universe.
use Rattle.std.specs.Prelude.{◌≡◌, ℕ, ◌<◌, Bool, true, false, not, ◌&&◌, ◌||◌, if◌then◌else◌, List, [], ◌∷◌, ◌++◌, Option, Some, None, IsTrue, length, slice_get, refl}
use Rattle.std.specs.List.{list_any}
use Rattle.std.specs.Option.{option_or}
use Rattle.std.specs.Str.{bytes_eq}
use Rattle.std.proofs.Common.{inl, inr, ap, sym, subst, ◌∙◌, arith}
use Rattle.std.proofs.lemmas.List.{append_assoc, append-nil}
use Rattle.std.proofs.lemmas.Option.{slice_get_within}
use Rattle.sorted_logic.specs.declared.declarations.FuncDecl.{FuncDecl}
use Rattle.sorted_logic.specs.declared.declarations.RelDecl.{RelDecl}
use Rattle.sorted_logic.specs.declared.term.Sort.{Sort}
use Rattle.sorted_logic.specs.declared.universe.Entry.{Entry}
use Rattle.sorted_logic.specs.Finite.{Table, row, last_value, answers}
use Rattle.sorted_logic.specs.Inside.Evaluation.{all_below}
use Rattle.sorted_logic.specs.Inside.UniverseTests.{are_elements, entries_fit, facts_fit, is_valued, each_choice, values_fit, arguments_fit, relation_fits}
use Rattle.sorted_logic.specs.Signature.{Signature}
use Rattle.sorted_logic.specs.Truth.{passes_of}
use Rattle.sorted_logic.specs.Universe.{Universe, AreElements, IsUniverse}
use Rattle.sorted_logic.proofs.Below.{both_true, one_true, each_passes, all_pass}
use Rattle.sorted_logic.proofs.EvaluatedTruths.{within_size}
use Rattle.sorted_logic.proofs.UniverseSorts.{implied, implies, together, passes_there, there_passes}
use Rattle.sorted_logic.proofs.Places.{same_bytes, bytes_refl}

and_false : (a b : Bool) → b ≡ false → (a && b) ≡ false
and_false true b h = h
and_false false b h = refl

module _ (u : Universe) where
  pub other_count : (sorts : List Sort) (elements : List ℕ) → (length sorts ≡ length elements → ⊥)
      → are_elements u sorts elements ≡ false
  other_count [] [] h = absurd (h refl)
  other_count [] (e ∷ elements) h = refl
  other_count (s ∷ sorts) [] h = refl
  other_count (s ∷ sorts) (e ∷ elements) h =
      and_false (u.has s.0 e) (are_elements u sorts elements) (other_count sorts elements (λ q. h (omega (arith, q))))

  elements_are : (sorts : List Sort) (elements : List ℕ) → are_elements u sorts elements ≡ true → AreElements u sorts elements
  elements_are [] [] h = tt
  elements_are [] (e ∷ elements) h = cc
  elements_are (s ∷ sorts) [] h = cc
  elements_are (s ∷ sorts) (e ∷ elements) h =
      let b : _ = both_true (u.has s.0 e) (are_elements u sorts elements) h in (b.0, elements_are sorts elements b.1)

  are_so : (sorts : List Sort) (elements : List ℕ) → AreElements u sorts elements → are_elements u sorts elements ≡ true
  are_so [] [] h = refl
  are_so [] (e ∷ elements) h = absurd h
  are_so (s ∷ sorts) [] h = absurd h
  are_so (s ∷ sorts) (e ∷ elements) h = together (u.has s.0 e) (are_elements u sorts elements) h.0 (are_so sorts elements h.1)

  entries_are : (sorts : List Sort) (entries : List Entry) → entries_fit u sorts entries ≡ true
      → (elements : List ℕ) (e : ℕ) → last_value entries elements ≡ Some e → AreElements u sorts elements
  entries_are sorts [] h elements e q = cc
  entries_are sorts (entry ∷ entries) h elements e q =
      let b : _ = both_true (are_elements u sorts entry.args) (entries_fit u sorts entries) h in
      go (last_value entries elements) refl (bytes_eq entry.args elements) refl q b.0 (entries_are sorts entries b.1)
    where
      go : (later : Option ℕ) → last_value entries elements ≡ later → (fits : Bool) → bytes_eq entry.args elements ≡ fits
          → option_or later (if fits then Some entry.value else None) ≡ Some e → are_elements u sorts entry.args ≡ true
          → ((others : List ℕ) (v : ℕ) → last_value entries others ≡ Some v → AreElements u sorts others)
          → AreElements u sorts elements
      go (Some v) r fits p k a rec = rec elements v r
      go None r true p k a rec = subst (AreElements u sorts) (same_bytes entry.args elements p)
          (elements_are sorts entry.args a)
      go None r false p k a rec = cc

  are_entries : (sorts : List Sort) (entries : List Entry)
      → ((elements : List ℕ) (e : ℕ) → last_value entries elements ≡ Some e → AreElements u sorts elements)
      → entries_fit u sorts entries ≡ true
  are_entries sorts [] h = refl
  are_entries sorts (entry ∷ entries) h = together (are_elements u sorts entry.args) (entries_fit u sorts entries)
      (are_so sorts entry.args (first (last_value entries entry.args) refl)) (are_entries sorts entries rest)
    where
      first : (later : Option ℕ) → last_value entries entry.args ≡ later → AreElements u sorts entry.args
      first (Some v) r = h entry.args v (ap (λ o. option_or o
          (if bytes_eq entry.args entry.args then Some entry.value else None)) r)
      first None r = h entry.args entry.value
          (ap (λ o. option_or o (if bytes_eq entry.args entry.args then Some entry.value else None)) r
          ∙ ap (λ b. if b then Some entry.value else None) (bytes_refl entry.args))

      rest : (elements : List ℕ) (e : ℕ) → last_value entries elements ≡ Some e → AreElements u sorts elements
      rest elements e r = h elements e (ap (λ o. option_or o
          (if bytes_eq entry.args elements then Some entry.value else None)) r)

  facts_are : (sorts : List Sort) (facts : List (List ℕ)) → facts_fit u sorts facts ≡ true
      → (elements : List ℕ) → list_any (bytes_eq elements) facts ≡ true → AreElements u sorts elements
  facts_are sorts [] h elements q = cc
  facts_are sorts (fact ∷ facts) h elements q =
      let b : _ = both_true (are_elements u sorts fact) (facts_fit u sorts facts) h in
      elim (one_true (bytes_eq elements fact) (list_any (bytes_eq elements) facts) q) [
        | inl r ↦ subst (AreElements u sorts) (sym (same_bytes elements fact r)) (elements_are sorts fact b.0)
        | inr r ↦ facts_are sorts facts b.1 elements r
      ]

  are_facts : (sorts : List Sort) (facts : List (List ℕ))
      → ((elements : List ℕ) → list_any (bytes_eq elements) facts ≡ true → AreElements u sorts elements)
      → facts_fit u sorts facts ≡ true
  are_facts sorts [] h = refl
  are_facts sorts (fact ∷ facts) h = together (are_elements u sorts fact) (facts_fit u sorts facts)
      (are_so sorts fact (h fact (ap (λ b. b || list_any (bytes_eq fact) facts) (bytes_refl fact))))
      (are_facts sorts facts (λ elements r. h elements
      (behind (bytes_eq elements fact) (list_any (bytes_eq elements) facts) r)))
    where
      behind : (a b : Bool) → b ≡ true → (a || b) ≡ true
      behind true b k = refl
      behind false b k = k

  module _ (n : ℕ) (bounded : (s e : ℕ) → IsTrue (u.has s e) → e < n) (test : List ℕ → Bool) where
    choices_pass : (sorts : List Sort) (chosen : List ℕ) → each_choice u n test sorts chosen ≡ true
        → (elements : List ℕ) → AreElements u sorts elements → test (chosen ++ elements) ≡ true
    choices_pass [] chosen h [] m = ap test (append-nil chosen) ∙ h
    choices_pass [] chosen h (e ∷ elements) m = absurd m
    choices_pass (s ∷ sorts) chosen h [] m = absurd m
    choices_pass (s ∷ sorts) chosen h (e ∷ elements) m = ap test (sym (append_assoc chosen (e ∷ []) elements))
        ∙ choices_pass sorts (chosen ++ e ∷ []) (implied (u.has s.0 e) _
        (each_passes n (λ e. not (u.has s.0 e) || each_choice u n test sorts (chosen ++ e ∷ [])) h e
        (bounded s.0 e m.0)) m.0) elements m.1

    pass_choices : (sorts : List Sort) (chosen : List ℕ)
        → ((elements : List ℕ) → AreElements u sorts elements → test (chosen ++ elements) ≡ true)
        → each_choice u n test sorts chosen ≡ true
    pass_choices [] chosen h = sym (ap test (append-nil chosen)) ∙ h [] tt
    pass_choices (s ∷ sorts) chosen h = all_pass n
        (λ e. not (u.has s.0 e) || each_choice u n test sorts (chosen ++ e ∷ [])) (λ e l.
        implies (u.has s.0 e) _ (λ m. pass_choices sorts (chosen ++ e ∷ []) (λ elements k.
        ap test (append_assoc chosen (e ∷ []) elements) ∙ h (e ∷ elements) (m, k))))

  has_value : (s : ℕ) (o : Option ℕ) → passes_of (u.has s) o ≡ true → (e : ℕ) × (o ≡ Some e) × IsTrue (u.has s e)
  has_value s None h = cc
  has_value s (Some e) h = (e, refl, h)

  valued : (s : ℕ) (o : Option ℕ) → (e : ℕ) × (o ≡ Some e) × IsTrue (u.has s e) → passes_of (u.has s) o ≡ true
  valued s o h = rw (h.1) h.2

module _ (table : Table) (sig : Signature) where
  pub values_of_all : all_below (length sig.functions) (values_fit (answers table) table.size sig.functions) ≡ true
      → (f : ℕ) (d : FuncDecl) (elements : List ℕ) → slice_get sig.functions f ≡ Some d
      → AreElements (answers table) d.args elements
      → (e : ℕ) × ((answers table).value f elements ≡ Some e) × IsTrue ((answers table).has d.result.0 e)
  values_of_all h f d elements q m = has_value (answers table) d.result.0 ((answers table).value f elements)
      (choices_pass (answers table) table.size (within_size table) (is_valued (answers table) f d) d.args []
      (passes_there (length sig.functions) (slice_get sig.functions)
      (λ f d. each_choice (answers table) table.size (is_valued (answers table) f d) d.args [])
      h f d (slice_get_within sig.functions f d q) q) elements m)

  pub all_values : IsUniverse sig (answers table)
      → all_below (length sig.functions) (values_fit (answers table) table.size sig.functions) ≡ true
  all_values h = there_passes (length sig.functions) (slice_get sig.functions)
      (λ f d. each_choice (answers table) table.size (is_valued (answers table) f d) d.args [])
      (λ f d l q. pass_choices (answers table) table.size (within_size table) (is_valued (answers table) f d) d.args []
      (λ elements m.
      valued (answers table) d.result.0 ((answers table).value f elements) (h.values f d elements q m)))

  pub arguments_of : all_below (length sig.functions) (arguments_fit table sig.functions) ≡ true
      → (f : ℕ) (d : FuncDecl) (elements : List ℕ) (e : ℕ) → slice_get sig.functions f ≡ Some d
      → (answers table).value f elements ≡ Some e → AreElements (answers table) d.args elements
  arguments_of h f d elements e q m = entries_are (answers table) d.args (row table.values f)
      (passes_there (length sig.functions) (slice_get sig.functions)
      (λ f d. entries_fit (answers table) d.args (row table.values f))
      h f d (slice_get_within sig.functions f d q) q) elements e m

  pub of_arguments : IsUniverse sig (answers table)
      → all_below (length sig.functions) (arguments_fit table sig.functions) ≡ true
  of_arguments h = there_passes (length sig.functions) (slice_get sig.functions)
      (λ f d. entries_fit (answers table) d.args (row table.values f))
      (λ f d l q. are_entries (answers table) d.args (row table.values f) (λ elements e m. h.arguments f d elements e q m))

  pub relations_of : all_below (length sig.relations) (relation_fits table sig.relations) ≡ true
      → (r : ℕ) (d : RelDecl) (elements : List ℕ) → slice_get sig.relations r ≡ Some d
      → IsTrue ((answers table).relates r elements) → AreElements (answers table) d.args elements
  relations_of h r d elements q m = facts_are (answers table) d.args (row table.facts r)
      (passes_there (length sig.relations) (slice_get sig.relations)
      (λ r d. facts_fit (answers table) d.args (row table.facts r))
      h r d (slice_get_within sig.relations r d q) q) elements m

  pub of_relations : IsUniverse sig (answers table)
      → all_below (length sig.relations) (relation_fits table sig.relations) ≡ true
  of_relations h = there_passes (length sig.relations) (slice_get sig.relations)
      (λ r d. facts_fit (answers table) d.args (row table.facts r))
      (λ r d l q. are_facts (answers table) d.args (row table.facts r) (λ elements m. h.relations r d elements q m))

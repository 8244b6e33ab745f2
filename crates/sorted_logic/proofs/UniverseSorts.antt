-- The tests of sorts hold exactly where subsorts lie in their supersorts, and roots and disjoint sorts share no element.
use Rattle.std.specs.Prelude.{◌≡◌, ℕ, ◌<◌, Bool, true, false, not, ◌&&◌, ◌||◌, ◌⊎◌, List, [], ◌∷◌, Option, Some, None, IsTrue, is_none, length, slice_get, option_map, option_and_then, refl}
use Rattle.std.specs.List.{AllByRecursion, list_all}
use Rattle.std.specs.Option.{option_map_or}
use Rattle.std.proofs.Common.{inl, inr, ap, subst, arith}
use Rattle.std.proofs.lemmas.Option.{slice_get_within}
use Rattle.sorted_logic.specs.declared.declarations.SortDecl.{SortDecl}
use Rattle.sorted_logic.specs.declared.term.Sort.{Sort}
use Rattle.sorted_logic.specs.Inside.Evaluation.{all_below}
use Rattle.sorted_logic.specs.Inside.UniverseTests.{is_inside, is_in_parent, are_apart, are_apart_roots, is_apart_from_earlier}
use Rattle.sorted_logic.specs.Signature.{Signature, parent}
use Rattle.sorted_logic.specs.Universe.{Universe, IsRoot, IsUniverse}
use Rattle.sorted_logic.proofs.Below.{both_true, each_passes, all_pass}

pub implied : (a b : Bool) → (not a || b) ≡ true → a ≡ true → b ≡ true
implied true b h k = h
implied false b h k = cc

pub implies : (a b : Bool) → (a ≡ true → b ≡ true) → (not a || b) ≡ true
implies true b h = h refl
implies false b h = refl

pub not_together : (a b : Bool) → not (a && b) ≡ true → a ≡ true → b ≡ true → ⊥
not_together true true h k l = cc
not_together true false h k l = cc
not_together false b h k l = cc

pub never_together : (a b : Bool) → (a ≡ true → b ≡ true → ⊥) → not (a && b) ≡ true
never_together true true h = absurd (h refl refl)
never_together true false h = refl
never_together false b h = refl

pub together : (a b : Bool) → a ≡ true → b ≡ true → (a && b) ≡ true
together true b h k = k
together false b h k = cc

pub ordered : (a b : ℕ) → (a ≡ b) ⊎ ((a < b) ⊎ (b < a))
ordered a b = grind arith

is_nothing : {A : Type 0} (o : Option A) → is_none o ≡ true → o ≡ None
is_nothing None h = refl
is_nothing (Some x) h = cc

-- a test of what is there at each place below a number
module _ {A : Type 0} (n : ℕ) (at : ℕ → Option A) (test : ℕ → A → Bool) where
  pub passes_there : all_below n (λ k. option_map_or (test k) (at k) true) ≡ true → (k : ℕ) (x : A) → k < n → at k
      ≡ Some x → test k x ≡ true
  passes_there h k x l e = subst (λ o. option_map_or (test k) o true ≡ true) e
      (each_passes n (λ k. option_map_or (test k) (at k) true) h k l)

  pub there_passes : ((k : ℕ) (x : A) → k < n → at k ≡ Some x → test k x ≡ true)
      → all_below n (λ k. option_map_or (test k) (at k) true) ≡ true
  there_passes h = all_pass n (λ k. option_map_or (test k) (at k) true) (λ k l. go k l (at k) refl)
    where
      go : (k : ℕ) → k < n → (o : Option A) → at k ≡ o → option_map_or (test k) o true ≡ true
      go k l None e = refl
      go k l (Some x) e = h k x l e

pub within_list : {A B : Type 0} (xs : List A) (part : A → Option B) (k : ℕ) (y : B)
    → option_and_then part (slice_get xs k) ≡ Some y → k < length xs
within_list {A} xs part k y h = go (slice_get xs k) refl h
  where
    go : (o : Option A) → slice_get xs k ≡ o → option_and_then part o ≡ Some y → k < length xs
    go None e q = cc
    go (Some x) e q = slice_get_within xs k x e

has_parent : (sorts : List SortDecl) (s p : ℕ) → parent sorts s ≡ Some p → s < length sorts
has_parent sorts s p h = go (option_and_then (λ d. d.under) (slice_get sorts s)) refl h
  where
    go : (o : Option Sort) → option_and_then (λ d. d.under) (slice_get sorts s) ≡ o → option_map (λ p. p.0) o ≡ Some p
        → s < length sorts
    go None e q = cc
    go (Some x) e q = within_list sorts (λ d. d.under) s x e

module _ (u : Universe) (n : ℕ) (bounded : (s e : ℕ) → IsTrue (u.has s e) → e < n) where
  inside : (s t : ℕ) → is_inside u n s t ≡ true → (e : ℕ) → IsTrue (u.has s e) → IsTrue (u.has t e)
  inside s t h e m = implied (u.has s e) (u.has t e) (each_passes n (λ e. not (u.has s e) || u.has t e) h e (bounded s e m)) m

  all_inside : (s t : ℕ) → ((e : ℕ) → IsTrue (u.has s e) → IsTrue (u.has t e)) → is_inside u n s t ≡ true
  all_inside s t h = all_pass n (λ e. not (u.has s e) || u.has t e) (λ e l. implies (u.has s e) (u.has t e) (h e))

  apart : (s t : ℕ) → are_apart u n s t ≡ true → (e : ℕ) → IsTrue (u.has s e) → IsTrue (u.has t e) → ⊥
  apart s t h e m k = not_together (u.has s e) (u.has t e)
      (each_passes n (λ e. not (u.has s e && u.has t e)) h e (bounded s e m)) m k

  all_apart : (s t : ℕ) → ((e : ℕ) → IsTrue (u.has s e) → IsTrue (u.has t e) → ⊥) → are_apart u n s t ≡ true
  all_apart s t h = all_pass n (λ e. not (u.has s e && u.has t e)) (λ e l. never_together (u.has s e) (u.has t e) (h e))

  module _ (sig : Signature) where
    pub subsorts_in : all_below (length sig.sorts) (is_in_parent u n sig.sorts) ≡ true
        → (s p e : ℕ) → parent sig.sorts s ≡ Some p → IsTrue (u.has s e) → IsTrue (u.has p e)
    subsorts_in h s p e q m =
        inside s p (passes_there (length sig.sorts) (parent sig.sorts) (is_inside u n) h s p
        (has_parent sig.sorts s p q) q) e m

    pub in_subsorts : IsUniverse sig u → all_below (length sig.sorts) (is_in_parent u n sig.sorts) ≡ true
    in_subsorts h = there_passes (length sig.sorts) (parent sig.sorts) (is_inside u n)
        (λ s p l q. all_inside s p (λ e m. h.subsorts s p e q m))

    apart_below : all_below (length sig.sorts) (is_apart_from_earlier u n sig.sorts) ≡ true
        → (s t e : ℕ) → IsRoot sig s → IsRoot sig t → t < s → IsTrue (u.has s e) → IsTrue (u.has t e) → ⊥
    apart_below h s t e rs rt l m k = apart s t
        (implied (is_none (parent sig.sorts s) && is_none (parent sig.sorts t)) (are_apart u n s t)
        (each_passes s (are_apart_roots u n sig.sorts s)
        (each_passes (length sig.sorts) (is_apart_from_earlier u n sig.sorts) h s rs.declared) t l)
        (together (is_none (parent sig.sorts s)) (is_none (parent sig.sorts t)) (ap is_none rs.highest)
        (ap is_none rt.highest))) e m k

    pub roots_apart : all_below (length sig.sorts) (is_apart_from_earlier u n sig.sorts) ≡ true
        → (s t e : ℕ) → IsRoot sig s → IsRoot sig t → IsTrue (u.has s e) → IsTrue (u.has t e) → s ≡ t
    roots_apart h s t e rs rt m k = elim (ordered s t) [
      | inl q ↦ q
      | inr r ↦ elim r [
        | inl l ↦ absurd (apart_below h t s e rt rs l k m)
        | inr l ↦ absurd (apart_below h s t e rs rt l m k)
      ]
    ]

    pub apart_roots : IsUniverse sig u → all_below (length sig.sorts) (is_apart_from_earlier u n sig.sorts) ≡ true
    apart_roots h = all_pass (length sig.sorts) (is_apart_from_earlier u n sig.sorts) (λ s l.
        all_pass s (are_apart_roots u n sig.sorts s)
        (λ t k. implies _ (are_apart u n s t) (λ b. pair s t l k (both_true _ _ b))))
      where
        pair : (s t : ℕ) → s < length sig.sorts → t < s → (is_none (parent sig.sorts s) ≡ true)
            × (is_none (parent sig.sorts t) ≡ true)
            → are_apart u n s t ≡ true
        pair s t l k b = all_apart s t (λ e m j.
            let rs : IsRoot sig s = record { declared = l; highest = is_nothing (parent sig.sorts s) b.0 } in
            let rt : IsRoot sig t = record {
              declared = omega (arith, l, k);
              highest = is_nothing
                  (parent sig.sorts t) b.1;
            } in
            let same : s ≡ t = h.roots s t e rs rt m j in
            absurd (omega (arith, same, k)))

  pub pairs_apart : (pairs : List (Sort × Sort)) → list_all (λ pair. are_apart u n pair.0.0 pair.1.0) pairs ≡ true
      → AllByRecursion (λ pair. (e : ℕ) → IsTrue (u.has pair.0.0 e) → IsTrue (u.has pair.1.0 e) → ⊥) pairs
  pairs_apart [] h = tt
  pairs_apart (pair ∷ pairs) h =
      let b : _ = both_true (are_apart u n pair.0.0 pair.1.0) (list_all (λ pair. are_apart u n pair.0.0 pair.1.0) pairs) h in
      (apart pair.0.0 pair.1.0 b.0, pairs_apart pairs b.1)

  pub apart_pairs : (pairs : List (Sort × Sort))
      → AllByRecursion (λ pair. (e : ℕ) → IsTrue (u.has pair.0.0 e) → IsTrue (u.has pair.1.0 e) → ⊥) pairs
      → list_all (λ pair. are_apart u n pair.0.0 pair.1.0) pairs ≡ true
  apart_pairs [] h = refl
  apart_pairs (pair ∷ pairs) h = together _ _ (all_apart pair.0.0 pair.1.0 h.0) (apart_pairs pairs h.1)

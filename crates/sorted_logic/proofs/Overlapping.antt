-- Sorts that share an element may overlap.
use Rattle.std.specs.Prelude.{◌≡◌, ℕ, zero, suc, ◌<◌, Bool, true, false, ◌&&◌, ◌||◌, ◌==◌, List, [], ◌∷◌, ◌⊎◌, Option, Some, None, IsTrue, length, refl}
use Rattle.std.specs.List.{AllByRecursion, list_any}
use Rattle.std.specs.Option.{option_map_or}
use Rattle.std.proofs.Common.{inl, inr, subst, eqb-true, eq-eqb}
use Rattle.sorted_logic.specs.declared.term.Sort.{Sort}
use Rattle.sorted_logic.specs.Laws.{SharersOverlap}
use Rattle.sorted_logic.specs.Signature.{Signature, IsSignature, parent, climbed, reaches, below, root, keeps_apart}
use Rattle.sorted_logic.specs.Universe.{Universe, IsUniverse, IsRoot}
use Rattle.sorted_logic.proofs.JoinedHierarchy.{climbs_within}

one_holds : (a b : Bool) → (a || b) ≡ true → (a ≡ true) ⊎ (b ≡ true)
one_holds true b h = inl refl
one_holds false b h = inr h

both_hold : (a b : Bool) → (a && b) ≡ true → (a ≡ true) × (b ≡ true)
both_hold true b h = (refl, h)
both_hold false b h = cc

module _ (u : Universe) (sig : Signature) (hs : IsSignature sig) (hu : IsUniverse sig u) where
  -- an element of a sort is one of each sort above it
  pub climbs : (n s e : ℕ) → IsTrue (u.has s e) → IsTrue (u.has (climbed sig.sorts n s) e)
  climbs zero s e h = h
  climbs (suc n) s e h = go (parent sig.sorts s) refl (climbs n)
    where
      go : (o : Option ℕ) → parent sig.sorts s ≡ o → ((t e : ℕ) → IsTrue (u.has t e) → IsTrue (u.has (climbed sig.sorts n t) e))
          → IsTrue (u.has (option_map_or (climbed sig.sorts n) o s) e)
      go None q rec = h
      go (Some p) q rec = rec p e (hu.subsorts s p e q h)

  reached : (n s t e : ℕ) → reaches sig.sorts n s t ≡ true → IsTrue (u.has s e) → IsTrue (u.has t e)
  reached zero s t e r h = subst (λ x. IsTrue (u.has x e)) (eqb-true s t r) h
  reached (suc n) s t e r h = elim (one_holds (s == t) _ r) [
    | inl q ↦ subst (λ x. IsTrue (u.has x e)) (eqb-true s t q) h
    | inr q ↦ go (parent sig.sorts s) refl q (reached n)
  ]
    where
      go : (o : Option ℕ) → parent sig.sorts s ≡ o → option_map_or (λ p. reaches sig.sorts n p t) o false ≡ true
          → ((s t e : ℕ) → reaches sig.sorts n s t ≡ true → IsTrue (u.has s e) → IsTrue (u.has t e)) → IsTrue (u.has t e)
      go None q r rec = cc
      go (Some p) q r rec = rec p t e r (hu.subsorts s p e q h)

  pub is_root : (s : ℕ) → s < length sig.sorts → IsRoot sig (root sig s)
  is_root s l = record { declared = climbs_within sig.sorts hs.hierarchy (length sig.sorts) s l; highest = hs.hierarchy.rooted s }

  pub one_root_only : (s t e : ℕ) → s < length sig.sorts → t < length sig.sorts → IsTrue (u.has s e) → IsTrue (u.has t e) → root sig s ≡ root sig t
  one_root_only s t e l m h k = hu.roots (root sig s) (root sig t) e (is_root s l) (is_root t m)
      (climbs (length sig.sorts) s e h) (climbs (length sig.sorts) t e k)

  never_apart : (s t e : ℕ) → IsTrue (u.has s e) → IsTrue (u.has t e) → (pairs : List (Sort × Sort))
      → AllByRecursion (λ pair. (e : ℕ) → IsTrue (u.has pair.0.0 e) → IsTrue (u.has pair.1.0 e) → ⊥) pairs
      → list_any (keeps_apart sig s t) pairs ≡ false
  never_apart s t e h k [] all = refl
  never_apart s t e h k (pair ∷ pairs) all = go (keeps_apart sig s t pair) refl (never_apart s t e h k pairs all.1)
    where
      go : (v : Bool) → keeps_apart sig s t pair ≡ v → list_any (keeps_apart sig s t) pairs ≡ false
          → (v || list_any (keeps_apart sig s t) pairs) ≡ false
      go false q rec = rec
      go true q rec = elim (one_holds (below sig s pair.0.0 && below sig t pair.1.0) _ q) [
        | inl r ↦ let b : _ = both_hold (below sig s pair.0.0) (below sig t pair.1.0) r in
            absurd (all.0 e (reached (length sig.sorts) s pair.0.0 e b.0 h) (reached (length sig.sorts) t pair.1.0 e b.1 k))
        | inr r ↦ let b : _ = both_hold (below sig s pair.1.0) (below sig t pair.0.0) r in
            absurd (all.0 e (reached (length sig.sorts) t pair.0.0 e b.1 k) (reached (length sig.sorts) s pair.1.0 e b.0 h))
      ]

pub sharing : (u : Universe) → SharersOverlap u
sharing u sig hs hu s t e l m h k =
    rw (eq-eqb (root sig s) (root sig t) (one_root_only u sig hs hu s t e l m h k), never_apart u sig hs hu s t e h k sig.disjoint hu.disjoint) refl

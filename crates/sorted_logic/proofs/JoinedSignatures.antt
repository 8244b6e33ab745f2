-- What a join declares, and that it is a signature.
use Rattle.std.specs.Prelude.{◌≡◌, ℕ, zero, suc, ◌+◌, ◌<◌, ◌≤◌, Bool, true, false, ◌&&◌, cond, List, [], ◌∷◌, ◌++◌, Option, Some, None, length, map, filter, take, slice_get, option_map, count_by, is_none, refl}
use Rattle.std.specs.List.{AllByRecursion}
use Rattle.std.specs.Option.{option_and_then, option_map_or, unwrap_or}
use Rattle.std.proofs.Common.{inl, inr, ap, ap₂, sym, subst, ◌∙◌, arith}
use Rattle.std.proofs.lemmas.List.{length-append}
use Rattle.std.proofs.lemmas.Option.{slice_get_past, slice_get_within}
use Rattle.sorted_logic.specs.declared.declarations.SortDecl.{SortDecl}
use Rattle.sorted_logic.specs.declared.declarations.Symbol.{Symbol}
use Rattle.sorted_logic.specs.declared.declarations.Symbol.TheVariants as symbol
use Rattle.sorted_logic.specs.declared.term.Sort.{Sort}
use Rattle.sorted_logic.specs.Adding.{symbol_of, with_sorts}
use Rattle.sorted_logic.specs.Inside.Joins.{place_of, next_of, places, moved_by, sort_by, function_by, relation_by, pair_by, new_sorts, new_functions, new_relations, with_functions, with_relations, with_pairs}
use Rattle.sorted_logic.specs.Joining.{is_new, sort_names, same_names, sort_clashes, clash, place_in_join, joined_place, joined_sort, moved_sort, moved_function, moved_relation, moved_pair, joined}
use Rattle.sorted_logic.specs.Signature.{Signature, IsSignature, IsHierarchy, AreSorts, AreBits, parent}
use Rattle.sorted_logic.proofs.Filtered.{count_step}
use Rattle.sorted_logic.proofs.Growing.{all_more}
use Rattle.sorted_logic.proofs.JoinedHierarchy.{less_or_not, front_parent, place_by, new_at, joined_parent, moved_from, rooted_in_join}
use Rattle.sorted_logic.proofs.JoinedPlaces.{named_sort, no_sort_clashes, within}

-- lists of other lengths have other names
pub other_length : (a b : Signature) (left right : List Sort) → (length left ≡ length right → ⊥) → same_names (sort_names a left) (sort_names b right) ≡ false
other_length a b [] [] h = absurd (h refl)
other_length a b [] (y ∷ ys) h = refl
other_length a b (x ∷ xs) [] h = refl
other_length a b (x ∷ xs) (y ∷ ys) h = rw (other_length a b xs ys (λ same. h (ap suc same))) (neither_way _)
  where
    neither_way : (v : Bool) → (v && false) ≡ false
    neither_way true = refl
    neither_way false = refl

-- Places.

pub places_at : (a : Signature) (next : ℕ) (xs : List SortDecl) (s : ℕ) (d : SortDecl) → slice_get xs s ≡ Some d
    → slice_get (places a next xs) s ≡ Some (place_of (next + count_by (λ d. is_new a d.name) (take s xs)) (symbol_of a d.name))
places_at a next [] s d h = cc
places_at a next (x ∷ xs) zero d h = let z : x ≡ d = cc in
    ap Some (ap₂ place_of (none_more next) (ap (λ (w : SortDecl). symbol_of a w.name) z))
  where
    none_more : (n : ℕ) → n ≡ n + 0
    none_more n = omega arith
places_at a next (x ∷ xs) (suc s) d h =
    places_at a (next_of next (symbol_of a x.name)) xs s d h ∙ ap (λ n. Some (place_of n (symbol_of a d.name))) (counted (symbol_of a x.name) refl)
  where
    sum : (m n : ℕ) → suc m + n ≡ m + suc n
    sum m n = omega arith

    counted : (o : Option Symbol) → symbol_of a x.name ≡ o → next_of next o + count_by (λ d. is_new a d.name) (take s xs)
        ≡ next + count_by (λ d. is_new a d.name) (x ∷ take s xs)
    counted None e = sum next (count_by (λ d. is_new a d.name) (take s xs))
        ∙ ap (λ n. next + n) (sym (count_step (λ (d : SortDecl). is_new a d.name) x (take s xs)
        ∙ ap (λ (v : Bool). cond v (suc (count_by (λ d. is_new a d.name) (take s xs))) (count_by (λ d. is_new a d.name) (take s xs))) (ap is_none e)))
    counted (Some y) e = ap (λ n. next + n) (sym (count_step (λ (d : SortDecl). is_new a d.name) x (take s xs)
        ∙ ap (λ (v : Bool). cond v (suc (count_by (λ d. is_new a d.name) (take s xs))) (count_by (λ d. is_new a d.name) (take s xs))) (ap is_none e)))

module _ (a b : Signature) where
  Places : List Sort
  Places = places a (length a.sorts) b.sorts

  stands : (s : ℕ) (o : Option Symbol) → place_of (length a.sorts + count_by (λ d. is_new a d.name) (take s b.sorts)) o ≡ record { 0 = place_in_join a b s o }
  stands s None = refl
  stands s (Some (symbol.Sort p)) = refl
  stands s (Some (symbol.Func f)) = refl
  stands s (Some (symbol.Rel r)) = refl

  -- the places made are those of the join
  pub moved_is : (s : Sort) → s.0 < length b.sorts → moved_by (places a (length a.sorts) b.sorts) s ≡ joined_sort a b s
  moved_is s l =
      let w : (d : SortDecl) × (slice_get b.sorts s.0 ≡ Some d) = within b.sorts s.0 l in
      ap (λ o. unwrap_or o s) (places_at a (length a.sorts) b.sorts s.0 w.0 w.1)
      ∙ stands s.0 (symbol_of a w.0.name)
      ∙ ap (λ (o : Option SortDecl). joined_named (option_map_or (λ d. d.name) o [])) (sym w.1)
    where
      joined_named : List ℕ → Sort
      joined_named name = record { 0 = place_in_join a b s.0 (symbol_of a name) }

  pub all_moved : (sorts : List Sort) → AreSorts b.sorts sorts → map (moved_by (places a (length a.sorts) b.sorts)) sorts ≡ map (joined_sort a b) sorts
  all_moved [] h = refl
  all_moved (s ∷ sorts) h = ap₂ (λ (x : Sort) (xs : List Sort). x ∷ xs) (moved_is s h.0) (all_moved sorts h.1)

  mapped_alike : {A : Type 0} (P : A → Type 0) (f g : A → A) (p : A → Bool) (xs : List A) → ((x : A) → P x → f x ≡ g x) → AllByRecursion P xs
      → map f (filter p xs) ≡ map g (filter p xs)
  mapped_alike P f g p [] h all = refl
  mapped_alike {A} P f g p (x ∷ xs) h all = go (p x) (mapped_alike P f g p xs h all.1)
    where
      go : (v : Bool) → map f (filter p xs) ≡ map g (filter p xs) → map f (cond v (x ∷ filter p xs) (filter p xs)) ≡ map g (cond v (x ∷ filter p xs) (filter p xs))
      go true r = ap₂ (λ (y : A) (ys : List A). y ∷ ys) (h x all.0) r
      go false r = r

  pub functions_moved : IsSignature b → map (function_by (places a (length a.sorts) b.sorts)) (new_functions a b.functions)
      ≡ map (moved_function a b) (new_functions a b.functions)
  functions_moved hb = mapped_alike (λ d. AreSorts b.sorts d.args × (d.result.0 < length b.sorts)) _ _ (λ d. is_new a d.name) b.functions
      (λ d h. ap₂ (λ (args : List Sort) (result : Sort). record d { args = args; result = result }) (all_moved d.args h.0) (moved_is d.result h.1)) hb.functions

  pub relations_moved : IsSignature b → map (relation_by (places a (length a.sorts) b.sorts)) (new_relations a b.relations)
      ≡ map (moved_relation a b) (new_relations a b.relations)
  relations_moved hb = mapped_alike (λ d. AreSorts b.sorts d.args) _ _ (λ d. is_new a d.name) b.relations
      (λ d h. ap (λ (args : List Sort). record d { args = args }) (all_moved d.args h)) hb.relations

  pairs_alike : (pairs : List (Sort × Sort)) → AllByRecursion (λ pair. (pair.0.0 < length b.sorts) × (pair.1.0 < length b.sorts)) pairs
      → map (pair_by (places a (length a.sorts) b.sorts)) pairs ≡ map (moved_pair a b) pairs
  pairs_alike [] h = refl
  pairs_alike (p ∷ pairs) h = ap₂ (λ (x : Sort × Sort) (xs : List (Sort × Sort)). x ∷ xs)
      (ap₂ (λ (x y : Sort). (x, y)) (moved_is p.0 h.0.0) (moved_is p.1 h.0.1)) (pairs_alike pairs h.1)

  pub pairs_moved : IsSignature b → map (pair_by (places a (length a.sorts) b.sorts)) b.disjoint ≡ map (moved_pair a b) b.disjoint
  pairs_moved hb = pairs_alike b.disjoint hb.disjoint

  under_moved : (hb : IsSignature b) (x : Option Sort) → ((p : Sort) → x ≡ Some p → p.0 < length b.sorts)
      → option_map (moved_by (places a (length a.sorts) b.sorts)) x ≡ option_map (joined_sort a b) x
  under_moved hb None h = refl
  under_moved hb (Some p) h = ap Some (moved_is p (h p refl))

  sorts_alike : (xs : List SortDecl) → AllByRecursion (λ d. (p : Sort) → d.under ≡ Some p → p.0 < length b.sorts) xs → IsSignature b
      → map (sort_by (places a (length a.sorts) b.sorts)) (new_sorts a xs) ≡ map (moved_sort a b) (new_sorts a xs)
  sorts_alike xs h hb = mapped_alike (λ d. (p : Sort) → d.under ≡ Some p → p.0 < length b.sorts) _ _ (λ d. is_new a d.name) xs
      (λ d h. ap (λ (under : Option Sort). record d { under = under }) (under_moved hb d.under h)) h

  -- each supersort of a hierarchy is declared
  supersorts : (sorts all : List SortDecl) (n : ℕ) → ((s : ℕ) (d : SortDecl) → slice_get all s ≡ Some d → slice_get sorts (n + s) ≡ Some d) → IsHierarchy sorts
      → AllByRecursion (λ d. (p : Sort) → d.under ≡ Some p → p.0 < length sorts) all
  supersorts sorts [] n at h = tt
  supersorts sorts (d ∷ all) n at h = (
    (λ p e. h.declared (n + 0) p.0 (ap (λ (o : Option SortDecl). option_map (λ p. p.0) (option_and_then (λ d. d.under) o)) (at 0 d refl) ∙ ap (option_map (λ p. p.0)) e)),
    supersorts sorts all (suc n) (λ s x e. ap (slice_get sorts) (sum n s) ∙ at (suc s) x e) h,
  )
    where
      sum : (m k : ℕ) → suc m + k ≡ m + suc k
      sum m k = omega arith

  pub sorts_moved : IsSignature b → map (sort_by (places a (length a.sorts) b.sorts)) (new_sorts a b.sorts) ≡ map (moved_sort a b) (new_sorts a b.sorts)
  sorts_moved hb = sorts_alike b.sorts (supersorts b.sorts b.sorts 0 (λ s d e. ap (slice_get b.sorts) (none_before s) ∙ e) hb.hierarchy) hb
    where
      none_before : (n : ℕ) → 0 + n ≡ n
      none_before n = omega arith

  bits_moved : (d : SortDecl) → AreBits d → AreBits (moved_sort a b d)
  bits_moved d h bits e = let k : (d.under ≡ None) × (1 ≤ bits) × (bits ≤ 128) = h bits e in
      (ap (option_map (joined_sort a b)) k.0, k.1, k.2)

  filtered_bits : (xs : List SortDecl) → AllByRecursion AreBits xs → AllByRecursion AreBits (map (moved_sort a b) (new_sorts a xs))
  filtered_bits [] h = tt
  filtered_bits (d ∷ xs) h = go (is_new a d.name) (filtered_bits xs h.1)
    where
      go : (v : Bool) → AllByRecursion AreBits (map (moved_sort a b) (new_sorts a xs))
          → AllByRecursion AreBits (map (moved_sort a b) (cond v (d ∷ new_sorts a xs) (new_sorts a xs)))
      go true r = (bits_moved d h.0, r)
      go false r = r

  pub bits_of_join : IsSignature b → AllByRecursion AreBits (map (moved_sort a b) (new_sorts a b.sorts))
  bits_of_join hb = filtered_bits b.sorts hb.bits

module _ (a b : Signature) (ha : IsSignature a) (hb : IsSignature b) (apart : clash a b ≡ false) where
  no_fewer_than_first : length a.sorts ≤ length (joined a b).sorts
  no_fewer_than_first = omega (arith, length-append a.sorts (map (moved_sort a b) (filter (λ d. is_new a d.name) b.sorts)))

  pub place_within : (s : ℕ) → s < length b.sorts → joined_place a b s < length (joined a b).sorts
  place_within s l = let w : (d : SortDecl) × (slice_get b.sorts s ≡ Some d) = within b.sorts s l in go w.0 w.1 (symbol_of a w.0.name) refl
    where
      go : (d : SortDecl) → slice_get b.sorts s ≡ Some d → (o : Option Symbol) → symbol_of a d.name ≡ o → joined_place a b s < length (joined a b).sorts
      go d e None h = slice_get_within (joined a b).sorts (joined_place a b s) (moved_sort a b d) (new_at a b ha hb apart s d e h)
      go d e (Some (symbol.Sort p)) h =
          let f : (left : SortDecl) × (slice_get a.sorts p.0 ≡ Some left) × (d.name ≡ left.name) = named_sort a d.name p h in
          subst (λ n. n < length (joined a b).sorts) (sym (place_by a b ha hb apart s d (Some (symbol.Sort p)) e h))
          (omega (arith, slice_get_within a.sorts p.0 f.0 f.1, no_fewer_than_first))
      go d e (Some (symbol.Func f)) h = absurd (no (subst (λ o. sort_clashes a b d o ≡ false) h (no_sort_clashes a b ha hb apart s d e)))
        where
          no : true ≡ false → ⊥
          no h = cc
      go d e (Some (symbol.Rel r)) h = absurd (no (subst (λ o. sort_clashes a b d o ≡ false) h (no_sort_clashes a b ha hb apart s d e)))
        where
          no : true ≡ false → ⊥
          no h = cc

  declared_in_join : (t p : ℕ) → parent (joined a b).sorts t ≡ Some p → p < length (joined a b).sorts
  declared_in_join t p e = elim (less_or_not t (length a.sorts)) [
    | inl l ↦ omega (
      arith,
      no_fewer_than_first,
      ha.hierarchy.declared t p
          (sym (front_parent a.sorts (map (moved_sort a b) (filter (λ d. is_new a d.name) b.sorts)) t l) ∙ e),
    )
    | inr l ↦ elim (less_or_not t (length (joined a b).sorts)) [
      | inl m ↦ let f : (s : ℕ) × (s < length b.sorts) × (joined_place a b s ≡ t) = moved_from a b ha hb apart t l m in
          let w : (d : SortDecl) × (slice_get b.sorts f.0 ≡ Some d) = within b.sorts f.0 f.1 in
          moved_declared f.0 (parent b.sorts f.0) refl (sym (joined_parent a b ha hb apart f.0 w.0 w.1) ∙ ap (parent (joined a b).sorts) f.2 ∙ e)
      | inr m ↦ let none : None ≡ Some p =
          sym (ap (λ d. option_map (λ p. p.0) (option_and_then (λ d. d.under) d)) (slice_get_past (joined a b).sorts t m)) ∙ e in cc
    ]
  ]
    where
      moved_declared : (s : ℕ) (o : Option ℕ) → parent b.sorts s ≡ o → option_map (joined_place a b) o ≡ Some p → p < length (joined a b).sorts
      moved_declared s None h q = cc
      moved_declared s (Some r) h q = let z : joined_place a b r ≡ p = cc in
          subst (λ n. n < length (joined a b).sorts) z (place_within r (hb.hierarchy.declared s r h))

  pub hierarchy_of_join : IsHierarchy (joined a b).sorts
  hierarchy_of_join = record { declared = declared_in_join; rooted = rooted_in_join a b ha hb apart }

  pub args_of_join : (sorts : List Sort) → AreSorts b.sorts sorts → AreSorts (joined a b).sorts (map (joined_sort a b) sorts)
  args_of_join [] h = tt
  args_of_join (s ∷ sorts) h = (place_within s.0 h.0, args_of_join sorts h.1)

  -- what the second declares has its sorts in the join
  pub functions_fit : (made : List Sort) → made ≡ places a (length a.sorts) b.sorts → (sorts : List SortDecl) → sorts ≡ (joined a b).sorts
      → AllByRecursion (λ d. AreSorts sorts (map (moved_by made) d.args) × ((moved_by made d.result).0 < length sorts)) b.functions
  functions_fit made e sorts q = rw (e, q) (all_more (λ d. AreSorts b.sorts d.args × (d.result.0 < length b.sorts)) _ b.functions
      (λ d h. (
        subst (AreSorts (joined a b).sorts) (sym (all_moved a b d.args h.0)) (args_of_join d.args h.0),
        subst (λ (s : Sort). s.0 < length (joined a b).sorts) (sym (moved_is a b d.result h.1)) (place_within d.result.0 h.1),
      )) hb.functions)

  pub relations_fit : (made : List Sort) → made ≡ places a (length a.sorts) b.sorts → (sorts : List SortDecl) → sorts ≡ (joined a b).sorts
      → AllByRecursion (λ d. AreSorts sorts (map (moved_by made) d.args)) b.relations
  relations_fit made e sorts q = rw (e, q) (all_more (λ d. AreSorts b.sorts d.args) _ b.relations
      (λ d h. subst (AreSorts (joined a b).sorts) (sym (all_moved a b d.args h)) (args_of_join d.args h)) hb.relations)

  pub pairs_fit : (made : List Sort) → made ≡ places a (length a.sorts) b.sorts → (sorts : List SortDecl) → sorts ≡ (joined a b).sorts
      → AllByRecursion (λ pair. ((moved_by made pair.0).0 < length sorts) × ((moved_by made pair.1).0 < length sorts)) b.disjoint
  pairs_fit made e sorts q = rw (e, q) (all_more (λ pair. (pair.0.0 < length b.sorts) × (pair.1.0 < length b.sorts)) _ b.disjoint
      (λ pair h. (
        subst (λ (s : Sort). s.0 < length (joined a b).sorts) (sym (moved_is a b pair.0 h.0)) (place_within pair.0.0 h.0),
        subst (λ (s : Sort). s.0 < length (joined a b).sorts) (sym (moved_is a b pair.1 h.1)) (place_within pair.1.0 h.1),
      )) hb.disjoint)

-- the second's declarations, added one kind behind the other
pub built : (a b : Signature) → IsSignature b → (made : List Sort) → made ≡ places a (length a.sorts) b.sorts
    → with_pairs (with_relations (with_functions (with_sorts a (map (sort_by made) (new_sorts a b.sorts)))
    (map (function_by made) (new_functions a b.functions))) (map (relation_by made) (new_relations a b.relations))) (map (pair_by made) b.disjoint)
    ≡ joined a b
built a b hb made e = rw e (λ i. record {
  sorts = a.sorts ++ sorts_moved a b hb i;
  functions = a.functions ++ functions_moved a b hb i;
  relations = a.relations ++ relations_moved a b hb i;
  disjoint = a.disjoint ++ pairs_moved a b hb i;
})

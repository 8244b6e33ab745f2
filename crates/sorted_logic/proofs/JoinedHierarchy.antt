-- The sorts of a join are a hierarchy.
use Rattle.std.specs.Prelude.{◌≡◌, ℕ, zero, suc, ◌+◌, ◌<◌, ◌≤◌, ◌-◌, ◌⊎◌, Bool, true, false, not, ◌||◌, cond, List, [], ◌∷◌, ◌++◌, Option, Some, None, length, map, filter, take, slice_get, option_map, count_by, is_none, refl}
use Rattle.std.specs.List.{AllByRecursion, list_any}
use Rattle.std.specs.Str.{bytes_eq}
use Rattle.std.specs.Option.{option_and_then, option_map_or}
use Rattle.std.proofs.lemmas.List.{length-append, length-map}
use Rattle.std.proofs.Common.{inl, inr, ap, sym, subst, ◌∙◌, arith}
use Rattle.std.proofs.lemmas.List.Filters.{length-filter_both}
use Rattle.std.proofs.lemmas.Map.Made.{length-le_from_is_member}
use Rattle.std.proofs.lemmas.Option.{slice_get-map, slice_get_past, slice_get_within}
use Rattle.sorted_logic.specs.declared.declarations.SortDecl.{SortDecl}
use Rattle.sorted_logic.specs.declared.declarations.Symbol.{Symbol}
use Rattle.sorted_logic.specs.declared.declarations.Symbol.TheVariants as symbol
use Rattle.sorted_logic.specs.declared.term.Sort.{Sort}
use Rattle.sorted_logic.specs.Adding.{symbol_of}
use Rattle.sorted_logic.specs.Joining.{is_new, sort_clashes, clash, place_in_join, joined_place, joined_sort, moved_sort, joined}
use Rattle.sorted_logic.specs.Signature.{Signature, IsSignature, IsHierarchy, parent, climbed}
use Rattle.sorted_logic.proofs.Places.{same_bytes, bytes_refl, bytes_equivalence, all_false, distinct_filtered, any_at, neither}
use Rattle.sorted_logic.proofs.Filtered.{get_front, get_behind, filtered_at, filtered_from}
use Rattle.sorted_logic.proofs.JoinedPlaces.{named_sort, sorts_differ, no_sort_clashes, shared_parent, under_of, within}

-- Climbing.

pub less_or_not : (m n : ℕ) → (m < n) ⊎ (n ≤ m)
less_or_not m n = grind arith

pub at_root : (sorts : List SortDecl) (n s : ℕ) → parent sorts s ≡ None → climbed sorts n s ≡ s
at_root sorts zero s h = refl
at_root sorts (suc n) s h = rw h refl

pub stays : (sorts : List SortDecl) (n k s : ℕ) → parent sorts (climbed sorts n s) ≡ None → climbed sorts (n + k) s ≡ climbed sorts n s
stays sorts zero k s h = ap (λ m. climbed sorts m s) (omega arith) ∙ at_root sorts k s h
stays sorts (suc n) k s h = ap (λ m. climbed sorts m s) (more n k) ∙ go (parent sorts s) refl h (stays sorts n k)
  where
    more : (n k : ℕ) → suc n + k ≡ suc (n + k)
    more n k = omega arith

    go : (o : Option ℕ) → parent sorts s ≡ o → parent sorts (option_map_or (climbed sorts n) o s) ≡ None
        → ((t : ℕ) → parent sorts (climbed sorts n t) ≡ None → climbed sorts (n + k) t ≡ climbed sorts n t)
        → climbed sorts (suc (n + k)) s ≡ climbed sorts (suc n) s
    go None e q rec = rw e refl
    go (Some t) e q rec = rw e (rec t q)

pub climbs_within : (sorts : List SortDecl) → IsHierarchy sorts → (n s : ℕ) → s < length sorts → climbed sorts n s < length sorts
climbs_within sorts h zero s l = l
climbs_within sorts h (suc n) s l = go (parent sorts s) refl (climbs_within sorts h n)
  where
    go : (o : Option ℕ) → parent sorts s ≡ o → ((t : ℕ) → t < length sorts → climbed sorts n t < length sorts)
        → option_map_or (climbed sorts n) o s < length sorts
    go None e rec = l
    go (Some t) e rec = rec t (h.declared s t e)

pub front_parent : (xs ys : List SortDecl) (s : ℕ) → s < length xs → parent (xs ++ ys) s ≡ parent xs s
front_parent xs ys s l = ap (λ d. option_map (λ p. p.0) (option_and_then (λ d. d.under) d)) (get_front xs ys s l)

pub climbs_front : (xs ys : List SortDecl) → IsHierarchy xs → (n s : ℕ) → s < length xs → climbed (xs ++ ys) n s ≡ climbed xs n s
climbs_front xs ys h zero s l = refl
climbs_front xs ys h (suc n) s l = rw (front_parent xs ys s l) (go (parent xs s) refl (climbs_front xs ys h n))
  where
    go : (o : Option ℕ) → parent xs s ≡ o → ((t : ℕ) → t < length xs → climbed (xs ++ ys) n t ≡ climbed xs n t)
        → option_map_or (climbed (xs ++ ys) n) o s ≡ option_map_or (climbed xs n) o s
    go None e rec = refl
    go (Some t) e rec = rec t (h.declared s t e)

module _ (a b : Signature) (ha : IsSignature a) (hb : IsSignature b) (apart : clash a b ≡ false) where
  New : List SortDecl
  New = filter (λ d. is_new a d.name) b.sorts

  pub place_by : (s : ℕ) (d : SortDecl) (o : Option Symbol) → slice_get b.sorts s ≡ Some d → symbol_of a d.name ≡ o
      → joined_place a b s ≡ place_in_join a b s o
  place_by s d o e h = ap (place_in_join a b s) (ap (symbol_of a) (ap (λ x. option_map_or (λ d. d.name) x []) e) ∙ h)

  moved_under : (x : Option Sort) → option_map (λ p. p.0) (option_map (joined_sort a b) x) ≡ option_map (joined_place a b) (option_map (λ p. p.0) x)
  moved_under None = refl
  moved_under (Some p) = refl

  pub new_at : (s : ℕ) (d : SortDecl) → slice_get b.sorts s ≡ Some d → symbol_of a d.name ≡ None
      → slice_get (joined a b).sorts (joined_place a b s) ≡ Some (moved_sort a b d)
  new_at s d e h = rw (place_by s d None e h) (
      get_behind a.sorts (map (moved_sort a b) (filter (λ d. is_new a d.name) b.sorts)) (count_by (λ d. is_new a d.name) (take s b.sorts))
      ∙ slice_get-map (moved_sort a b) (filter (λ d. is_new a d.name) b.sorts) (count_by (λ d. is_new a d.name) (take s b.sorts))
      ∙ ap (option_map (moved_sort a b)) (filtered_at (λ d. is_new a d.name) b.sorts s d e (ap is_none h)))

  -- the supersort of a sort of the second stands where that sort's does
  pub joined_parent : (s : ℕ) (d : SortDecl) → slice_get b.sorts s ≡ Some d
      → parent (joined a b).sorts (joined_place a b s) ≡ option_map (joined_place a b) (parent b.sorts s)
  joined_parent s d e = go (symbol_of a d.name) refl
    where
      go : (o : Option Symbol) → symbol_of a d.name ≡ o
          → parent (joined a b).sorts (joined_place a b s) ≡ option_map (joined_place a b) (parent b.sorts s)
      go None h = under_of (joined a b).sorts (joined_place a b s) (moved_sort a b d) (new_at s d e h) ∙ moved_under d.under
          ∙ sym (ap (option_map (joined_place a b)) (under_of b.sorts s d e))
      go (Some (symbol.Sort p)) h =
          let f : (left : SortDecl) × (slice_get a.sorts p.0 ≡ Some left) × (d.name ≡ left.name) = named_sort a d.name p h in
          ap (parent (joined a b).sorts) (place_by s d (Some (symbol.Sort p)) e h)
          ∙ front_parent a.sorts (map (moved_sort a b) (filter (λ d. is_new a d.name) b.sorts)) p.0 (slice_get_within a.sorts p.0 f.0 f.1)
          ∙ shared_parent a b ha hb apart s d p e h
      go (Some (symbol.Func f)) h = absurd (no (subst (λ o. sort_clashes a b d o ≡ false) h (no_sort_clashes a b ha hb apart s d e)))
        where
          no : true ≡ false → ⊥
          no h = cc
      go (Some (symbol.Rel r)) h = absurd (no (subst (λ o. sort_clashes a b d o ≡ false) h (no_sort_clashes a b ha hb apart s d e)))
        where
          no : true ≡ false → ⊥
          no h = cc

  pub climbs_moved : (n s : ℕ) → s < length b.sorts → climbed (joined a b).sorts n (joined_place a b s) ≡ joined_place a b (climbed b.sorts n s)
  climbs_moved zero s l = refl
  climbs_moved (suc n) s l =
      let w : (d : SortDecl) × (slice_get b.sorts s ≡ Some d) = within b.sorts s l in
      rw (joined_parent s w.0 w.1) (go (parent b.sorts s) refl (climbs_moved n))
    where
      go : (o : Option ℕ) → parent b.sorts s ≡ o
          → ((t : ℕ) → t < length b.sorts → climbed (joined a b).sorts n (joined_place a b t) ≡ joined_place a b (climbed b.sorts n t))
          → option_map_or (climbed (joined a b).sorts n) (option_map (joined_place a b) o) (joined_place a b s)
          ≡ joined_place a b (option_map_or (climbed b.sorts n) o s)
      go None e rec = refl
      go (Some t) e rec = rec t (hb.hierarchy.declared s t e)

  second : (x y : Bool) → x ≡ false → (x || y) ≡ true → y ≡ true
  second true y e h = cc
  second false y e h = h

  is_shared : SortDecl → Bool
  is_shared d = not (is_new a d.name)

  -- one that does not clash, and whose name the first signature has, is a sort of the first
  shared_name : (d : SortDecl) (o : Option Symbol) → symbol_of a d.name ≡ o → sort_clashes a b d o ≡ false → not (is_none o) ≡ true
      → list_any (bytes_eq d.name) (map (λ d. d.name) a.sorts) ≡ true
  shared_name d None h c k = cc
  shared_name d (Some (symbol.Sort p)) h c k =
      let f : (left : SortDecl) × (slice_get a.sorts p.0 ≡ Some left) × (d.name ≡ left.name) = named_sort a d.name p h in
      any_at (bytes_eq d.name) (λ d. d.name) a.sorts p.0 f.0 f.1 (subst (λ n. bytes_eq d.name n ≡ true) f.2 (bytes_refl d.name))
  shared_name d (Some (symbol.Func f)) h c k = cc
  shared_name d (Some (symbol.Rel r)) h c k = cc

  shared_are_named : (xs : List SortDecl) → AllByRecursion (λ d. sort_clashes a b d (symbol_of a d.name) ≡ false) xs → (q : List ℕ)
      → list_any (bytes_eq q) (map (λ d. d.name) (filter is_shared xs)) ≡ true → list_any (bytes_eq q) (map (λ d. d.name) a.sorts) ≡ true
  unfolding is_shared
  shared_are_named [] h q m = cc
  shared_are_named (d ∷ xs) h q m = go (not (is_new a d.name)) refl (bytes_eq q d.name) refl m (shared_are_named xs h.1 q)
    where
      Wanted : Type 0
      Wanted = list_any (bytes_eq q) (map (λ d. d.name) a.sorts) ≡ true

      go : (v : Bool) → not (is_new a d.name) ≡ v → (w : Bool) → bytes_eq q d.name ≡ w
          → list_any (bytes_eq q) (map (λ d. d.name) (cond v (d ∷ filter is_shared xs) (filter is_shared xs))) ≡ true
          → (list_any (bytes_eq q) (map (λ d. d.name) (filter is_shared xs)) ≡ true → Wanted) → Wanted
      go true e true f m rec = subst (λ n. list_any (bytes_eq n) (map (λ d. d.name) a.sorts) ≡ true) (sym (same_bytes q d.name f))
          (shared_name d (symbol_of a d.name) refl h.0 e)
      go true e false f m rec = rec (second (bytes_eq q d.name) _ f m)
      go false e w f m rec = rec m

  -- the join has at least as many sorts as the second signature
  no_fewer : length b.sorts ≤ length (joined a b).sorts
  unfolding is_shared
  no_fewer =
      let all : length (filter (λ d. is_new a d.name) b.sorts) + length (filter is_shared b.sorts) ≡ length b.sorts =
      length-filter_both (λ d. is_new a d.name) is_shared (λ d. refl) b.sorts in
      let clashing : AllByRecursion (λ d. sort_clashes a b d (symbol_of a d.name) ≡ false) b.sorts =
      all_false (λ d. sort_clashes a b d (symbol_of a d.name)) b.sorts (neither _ _ (neither _ _ apart).0).0 in
      let shared : length (map (λ d. d.name) (filter is_shared b.sorts)) ≤ length (map (λ d. d.name) a.sorts) =
      length-le_from_is_member bytes_equivalence (map (λ d. d.name) (filter is_shared b.sorts)) (map (λ d. d.name) a.sorts)
      (distinct_filtered (λ d. d.name) is_shared b.sorts (sorts_differ b hb)) (shared_are_named b.sorts clashing) in
      omega (
        arith,
        all,
        shared,
        length-map (filter is_shared b.sorts) (λ d. d.name),
        length-map a.sorts (λ d. d.name),
        length-append a.sorts (map (moved_sort a b) (filter (λ d. is_new a d.name) b.sorts)),
        length-map (filter (λ d. is_new a d.name) b.sorts) (moved_sort a b),
      )

  front_rooted : (t : ℕ) → t < length a.sorts → parent (joined a b).sorts (climbed (joined a b).sorts (length (joined a b).sorts) t) ≡ None
  front_rooted t l =
      let more : List SortDecl = map (moved_sort a b) (filter (λ d. is_new a d.name) b.sorts) in
      let climb : climbed (a.sorts ++ more) (length (a.sorts ++ more)) t ≡ climbed a.sorts (length a.sorts) t =
      climbs_front a.sorts more ha.hierarchy (length (a.sorts ++ more)) t l
      ∙ ap (λ n. climbed a.sorts n t) (length-append a.sorts more)
      ∙ stays a.sorts (length a.sorts) (length more) t (ha.hierarchy.rooted t) in
      ap (parent (a.sorts ++ more)) climb
      ∙ front_parent a.sorts more (climbed a.sorts (length a.sorts) t) (climbs_within a.sorts ha.hierarchy (length a.sorts) t l)
      ∙ ha.hierarchy.rooted t

  moved_rooted : (s : ℕ) → s < length b.sorts
      → parent (joined a b).sorts (climbed (joined a b).sorts (length (joined a b).sorts) (joined_place a b s)) ≡ None
  moved_rooted s l =
      let all : length (joined a b).sorts ≡ length b.sorts + (length (joined a b).sorts - length b.sorts) = omega (arith, no_fewer) in
      let climb : climbed b.sorts (length (joined a b).sorts) s ≡ climbed b.sorts (length b.sorts) s =
      ap (λ n. climbed b.sorts n s) all ∙ stays b.sorts (length b.sorts) (length (joined a b).sorts - length b.sorts) s (hb.hierarchy.rooted s) in
      let w : (d : SortDecl) × (slice_get b.sorts (climbed b.sorts (length b.sorts) s) ≡ Some d) =
      within b.sorts (climbed b.sorts (length b.sorts) s) (climbs_within b.sorts hb.hierarchy (length b.sorts) s l) in
      ap (parent (joined a b).sorts) (climbs_moved (length (joined a b).sorts) s l ∙ ap (joined_place a b) climb)
      ∙ joined_parent (climbed b.sorts (length b.sorts) s) w.0 w.1
      ∙ ap (option_map (joined_place a b)) (hb.hierarchy.rooted s)

  -- a place behind the first signature's sorts is where a new sort of the second stands
  pub moved_from : (t : ℕ) → length a.sorts ≤ t → t < length (joined a b).sorts → (s : ℕ) × (s < length b.sorts) × (joined_place a b s ≡ t)
  moved_from t l m =
      let k : t - length a.sorts < length (filter (λ d. is_new a d.name) b.sorts) = omega (
        arith,
        l,
        m,
        length-append a.sorts (map (moved_sort a b) (filter (λ d. is_new a d.name) b.sorts)),
        length-map (filter (λ d. is_new a d.name) b.sorts) (moved_sort a b),
      ) in
      let f : (s : ℕ) × (d : SortDecl) × (slice_get b.sorts s ≡ Some d) × (is_new a d.name ≡ true)
      × (count_by (λ d. is_new a d.name) (take s b.sorts) ≡ t - length a.sorts) =
      filtered_from (λ d. is_new a d.name) b.sorts (t - length a.sorts) k in
      let place : joined_place a b f.0 ≡ length a.sorts + count_by (λ d. is_new a d.name) (take f.0 b.sorts) =
      place_by f.0 f.1 None f.2 (nothing (symbol_of a f.1.name) f.3) in
      (f.0, slice_get_within b.sorts f.0 f.1 f.2, place ∙ omega (arith, f.4, l))
    where
      nothing : (o : Option Symbol) → is_none o ≡ true → o ≡ None
      nothing None h = refl
      nothing (Some x) h = cc

  pub rooted_in_join : (t : ℕ) → parent (joined a b).sorts (climbed (joined a b).sorts (length (joined a b).sorts) t) ≡ None
  rooted_in_join t = elim (less_or_not t (length a.sorts)) [
    | inl l ↦ front_rooted t l
    | inr l ↦ elim (less_or_not t (length (joined a b).sorts)) [
      | inl m ↦ let f : (s : ℕ) × (s < length b.sorts) × (joined_place a b s ≡ t) = moved_from t l m in
          subst (λ x. parent (joined a b).sorts (climbed (joined a b).sorts (length (joined a b).sorts) x) ≡ None) f.2 (moved_rooted f.0 f.1)
      | inr m ↦ let none : parent (joined a b).sorts t ≡ None =
          ap (λ d. option_map (λ p. p.0) (option_and_then (λ d. d.under) d)) (slice_get_past (joined a b).sorts t m) in
          ap (parent (joined a b).sorts) (at_root (joined a b).sorts (length (joined a b).sorts) t none) ∙ none
    ]
  ]

-- Where what a signature declares stands in a join.
use Rattle.std.specs.Prelude.{◌≡◌, ℕ, zero, suc, ◌<◌, ◌&&◌, ◌||◌, Bool, true, false, not, List, [], ◌∷◌, ◌++◌, Option, Some, None, length, map, slice_get, option_map, refl}
use Rattle.std.specs.List.{IsDistinct, AllByRecursion, list_any}
use Rattle.std.specs.Option.{option_or, option_map_or}
use Rattle.std.specs.Str.{bytes_eq}
use Rattle.std.proofs.Common.{ap, sym, subst, ◌∙◌, arith}
use Rattle.std.proofs.lemmas.Map.Keys.{IsDistinct-head, IsDistinct-tail, IsDistinct-cons}
use Rattle.sorted_logic.specs.declared.declarations.SortDecl.{SortDecl}
use Rattle.sorted_logic.specs.declared.declarations.Symbol.TheVariants as symbol
use Rattle.sorted_logic.specs.declared.term.Sort.{Sort}
use Rattle.sorted_logic.specs.Adding.{symbol_of}
use Rattle.sorted_logic.specs.Joining.{sort_name, alike_sorts, sort_clashes, clash, place_in_join, joined_place, same_option}
use Rattle.sorted_logic.specs.Signature.{Signature, IsSignature, parent}
use Rattle.sorted_logic.proofs.Places.{own_place, found, same_bytes}

all_front : {A : Type 0} (P : A → Type 0) (xs ys : List A) → AllByRecursion P (xs ++ ys) → AllByRecursion P xs
all_front P [] ys h = tt
all_front P (x ∷ xs) ys h = (h.0, all_front P xs ys h.1)

none_twice : {A : Type 0} (e : A → A → Bool) → IsDistinct e []
unfolding IsDistinct
none_twice e = tt

distinct_front : {A : Type 0} (e : A → A → Bool) (xs ys : List A) → IsDistinct e (xs ++ ys) → IsDistinct e xs
distinct_front e [] ys h = none_twice e
distinct_front e (x ∷ xs) ys h = IsDistinct-cons e x xs (all_front (λ y. e x y ≡ false) xs ys (IsDistinct-head e x (xs ++ ys) h))
    (distinct_front e xs ys (IsDistinct-tail e x (xs ++ ys) h))

pub sorts_differ : (sig : Signature) → IsSignature sig → IsDistinct bytes_eq (map (λ d. d.name) sig.sorts)
sorts_differ sig h = distinct_front bytes_eq (map (λ d. d.name) sig.sorts) (map (λ d. d.name) sig.functions)
    (distinct_front bytes_eq (map (λ d. d.name) sig.sorts ++ map (λ d. d.name) sig.functions) (map (λ d. d.name) sig.relations) h.names_differ)

-- a sort's own name stands for it
pub own_symbol : (sig : Signature) → IsSignature sig → (s : ℕ) (d : SortDecl) → slice_get sig.sorts s ≡ Some d
    → symbol_of sig d.name ≡ Some (symbol.Sort (record { 0 = s }))
own_symbol sig h s d e = rw (own_place (λ x. x.name) sig.sorts s d (sorts_differ sig h) e) refl

sort_only : (o f r : Option ℕ) (s : Sort) → option_or (option_map (λ i. symbol.Sort (record { 0 = i })) o)
    (option_or (option_map (λ i. symbol.Func (record { 0 = i })) f) (option_map (λ i. symbol.Rel (record { 0 = i })) r)) ≡ Some (symbol.Sort s)
    → o ≡ Some s.0
sort_only (Some i) f r s h = cc
sort_only None (Some i) r s h = cc
sort_only None None (Some i) s h = cc
sort_only None None None s h = cc

-- what a name stands for as a sort is a sort of this name
pub named_sort : (sig : Signature) (name : List ℕ) (s : Sort) → symbol_of sig name ≡ Some (symbol.Sort s)
    → (d : SortDecl) × (slice_get sig.sorts s.0 ≡ Some d) × (name ≡ d.name)
named_sort sig name s h =
    let f : (d : SortDecl) × (slice_get sig.sorts s.0 ≡ Some d) × (bytes_eq name d.name ≡ true) =
    found (λ d. bytes_eq name d.name) sig.sorts s.0 (sort_only _ _ _ s h) in
    (f.0, f.1, same_bytes name f.0.name f.2)

neither : (x y : Bool) → (x || y) ≡ false → (x ≡ false) × (y ≡ false)
neither true y h = cc
neither false y h = (refl, h)

none_at : {A : Type 0} (p : A → Bool) (xs : List A) (k : ℕ) (x : A) → list_any p xs ≡ false → slice_get xs k ≡ Some x → p x ≡ false
none_at p [] k x h e = cc
none_at p (y ∷ ys) zero x h e = let z : y ≡ x = cc in rw (← z) (neither (p y) (list_any p ys) h).0
none_at p (y ∷ ys) (suc k) x h e = none_at p ys k x (neither (p y) (list_any p ys) h).1 e

both : (x y : Bool) → (x && y) ≡ true → (x ≡ true) × (y ≡ true)
both true y h = (refl, h)
both false y h = cc

unless_not : (x : Bool) → not x ≡ false → x ≡ true
unless_not true h = refl
unless_not false h = cc

pub within : {A : Type 0} (xs : List A) (k : ℕ) → k < length xs → (x : A) × (slice_get xs k ≡ Some x)
within [] k h = absurd (omega arith)
within (x ∷ xs) zero h = (x, refl)
within (x ∷ xs) (suc k) h = within xs k (omega arith)

pub under_of : (sorts : List SortDecl) (s : ℕ) (d : SortDecl) → slice_get sorts s ≡ Some d → parent sorts s ≡ option_map (λ p. p.0) d.under
under_of sorts s d e = rw e refl

module _ (a b : Signature) (ha : IsSignature a) (hb : IsSignature b) (apart : clash a b ≡ false) where
  pub no_sort_clashes : (s : ℕ) (d : SortDecl) → slice_get b.sorts s ≡ Some d → sort_clashes a b d (symbol_of a d.name) ≡ false
  no_sort_clashes s d e = none_at (λ d. sort_clashes a b d (symbol_of a d.name)) b.sorts s d
      (neither (list_any (λ d. sort_clashes a b d (symbol_of a d.name)) b.sorts) _ (neither _ _ apart).0).0 e

  -- a sort of the second whose name is that of one of the first stands there
  at_home : (x y : ℕ) (d : SortDecl) → slice_get a.sorts x ≡ Some d → sort_name b y ≡ d.name → joined_place a b y ≡ x
  at_home x y d e n = ap (place_in_join a b y) (ap (symbol_of a) n ∙ own_symbol a ha x d e)

  alike : (s : ℕ) (d : SortDecl) (p : Sort) (left : SortDecl) → slice_get b.sorts s ≡ Some d → symbol_of a d.name ≡ Some (symbol.Sort p)
      → slice_get a.sorts p.0 ≡ Some left → alike_sorts a b left d ≡ true
  alike s d p left e h l = unless_not (alike_sorts a b left d) (subst (λ o. option_map_or (λ left. not (alike_sorts a b left d)) o true ≡ false) l
      (subst (λ o. sort_clashes a b d o ≡ false) h (no_sort_clashes s d e)))

  same_parent : (x y : Option Sort) → ((p : Sort) → x ≡ Some p → p.0 < length a.sorts)
      → same_option bytes_eq (option_map (λ p. sort_name a p.0) x) (option_map (λ p. sort_name b p.0) y) ≡ true
      → option_map (λ p. p.0) x ≡ option_map (joined_place a b) (option_map (λ p. p.0) y)
  same_parent None None declared h = refl
  same_parent None (Some q) declared h = cc
  same_parent (Some p) None declared h = cc
  same_parent (Some p) (Some q) declared h =
      let w : (d : SortDecl) × (slice_get a.sorts p.0 ≡ Some d) = within a.sorts p.0 (declared p refl) in
      let n : sort_name a p.0 ≡ w.0.name = ap (λ o. option_map_or (λ d. d.name) o []) w.1 in
      ap Some (sym (at_home p.0 q.0 w.0 w.1 (sym (same_bytes (sort_name a p.0) (sort_name b q.0) h) ∙ n)))

  -- a sort of the second that the first has too: its supersort there is that of the same name
  pub shared_parent : (s : ℕ) (d : SortDecl) (p : Sort) → slice_get b.sorts s ≡ Some d → symbol_of a d.name ≡ Some (symbol.Sort p)
      → parent a.sorts p.0 ≡ option_map (joined_place a b) (parent b.sorts s)
  shared_parent s d p e h =
      let f : (left : SortDecl) × (slice_get a.sorts p.0 ≡ Some left) × (d.name ≡ left.name) = named_sort a d.name p h in
      let u : parent a.sorts p.0 ≡ option_map (λ p. p.0) f.0.under = under_of a.sorts p.0 f.0 f.1 in
      u ∙ same_parent f.0.under d.under (λ q r. ha.hierarchy.declared p.0 q.0 (u ∙ ap (option_map (λ p. p.0)) r)) (both _ _ (alike s d p f.0 e h f.1)).0
      ∙ sym (ap (option_map (joined_place a b)) (under_of b.sorts s d e))

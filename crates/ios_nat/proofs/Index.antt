-- The maps of entries, with an entry more.
use Rattle.std.proofs.Common.{◌≡◌, Bool, true, false, cond, List, [], ◌∷◌, ◌++◌, map, find, Option, Some, None, option_map, is_some, ◌||◌, refl, sym, ap, ◌∙◌, arith}
use Rattle.std.specs.Cmp.{IsEquivalence}
use Rattle.std.specs.HashMap.{HashMap, get}
use Rattle.std.specs.List.{list_any}
use Rattle.std.specs.Option.{option_or}
use Rattle.std.proofs.lemmas.Bool.Decides.{nat_tests}
use Rattle.std.proofs.lemmas.List.{map-append}
use Rattle.std.proofs.lemmas.List.Folds.{find-append}
use Rattle.std.proofs.lemmas.Map.Keys.{IsDistinct-push}
use Rattle.ios_nat.specs.Index.{IsIndex}
use Rattle.ios_nat.specs.Sides.{AreOnce, same_side}

nothing_mapped : {X Y : Type 0} (f : X → Y) (x : Option X) → option_map f x ≡ None → x ≡ None
nothing_mapped f None none = refl
nothing_mapped f (Some x) none = cc

-- two answers of which none is there
pub neither : {X Y : Type 0} (x : Option X) (y : Option Y) → (is_some x || is_some y) ≡ false → (x ≡ None) × (y ≡ None)
neither None None none = (refl, refl)
neither None (Some y) none = cc none
neither (Some x) y none = cc none

pub absent : {X : Type 0} (x : Option X) → is_some x ≡ false → x ≡ None
absent None none = refl
absent (Some x) none = cc none

or_none : {X : Type 0} (x : Option X) → option_or x None ≡ x
or_none None = refl
or_none (Some x) = refl

none_has : {E K : Type 0} (same : K → K → Bool) (key : E → K) (entries : List E) (k : K) → find (λ e. same k (key e)) entries ≡ None → list_any (same k) (map key entries) ≡ false
none_has same key [] k none = refl
none_has same key (x ∷ xs) k none = by (same k (key x)) refl (none_has same key xs k)
  where
    by : (b : Bool) → same k (key x) ≡ b → (find (λ e. same k (key e)) xs ≡ None → list_any (same k) (map key xs) ≡ false) → list_any (same k) (map key (x ∷ xs)) ≡ false
    by true is rest = let some = rw is at none in cc
    by false is rest = let later = rw is at none in rw is (rest later)

-- the first of the entries with the key, where one more stands behind them whose key is new
found_push : {E K V : Type 0} {same : K → K → Bool} → IsEquivalence same → (key : E → K) (gives : E → V) (entries : List E) (entry : E)
    → option_map gives (find (λ e. same (key entry) (key e)) entries) ≡ None → (k : K)
    → option_map gives (find (λ e. same k (key e)) (entries ++ entry ∷ [])) ≡ cond (same (key entry) k) (Some (gives entry)) (option_map gives (find (λ e. same k (key e)) entries))
found_push {same = same} laws key gives entries entry none k =
    ap (option_map gives) (find-append (λ e. same k (key e)) entries (entry ∷ [])) ∙ by (same (key entry) k) refl
  where
    by : (b : Bool) → same (key entry) k ≡ b
        → option_map gives (option_or (find (λ e. same k (key e)) entries) (cond (same k (key entry)) (Some entry) None)) ≡ cond (same (key entry) k) (Some (gives entry)) (option_map gives (find (λ e. same k (key e)) entries))
    by true is =
        let alike : find (λ e. same (key entry) (key e)) entries ≡ find (λ e. same k (key e)) entries = λ i. find (λ e. laws.congr (key entry) k (key e) is i) entries in
        let absent : find (λ e. same k (key e)) entries ≡ None = sym alike ∙ nothing_mapped gives _ none in
        let last : same k (key entry) ≡ true = laws.symm k (key entry) ∙ is in
        rw (is, absent, last) refl
    by false is =
        let last : same k (key entry) ≡ false = laws.symm k (key entry) ∙ is in
        rw (is, last) (ap (option_map gives) (or_none (find (λ e. same k (key e)) entries)))

pub index_push : {E K V S T U : Type 0} {same : K → K → Bool} → IsEquivalence same → (key : E → K) (gives : E → V) (entries : List E) (entry : E)
    (old : HashMap K V S) (reserved : HashMap K V T) (new : HashMap K V U) → IsIndex same key gives entries old
    → ((k : K) → get same reserved k ≡ get same old k) → option_map gives (find (λ e. same (key entry) (key e)) entries) ≡ None
    → ((k : K) → get same new k ≡ cond (same (key entry) k) (Some (gives entry)) (get same reserved k)) → IsIndex same key gives (entries ++ entry ∷ []) new
index_push {same = same} laws key gives entries entry old reserved new index room none updates k =
    updates k ∙ ap (cond (same (key entry) k) (Some (gives entry))) (room k ∙ index k) ∙ sym (found_push laws key gives entries entry none k)

pub once_push : {E K V : Type 0} {same : K → K → Bool} → IsEquivalence same → (key : E → K) (gives : E → V) (entries : List E) (entry : E)
    → AreOnce same key entries → option_map gives (find (λ e. same (key entry) (key e)) entries) ≡ None → AreOnce same key (entries ++ entry ∷ [])
once_push {same = same} laws key gives entries entry once none =
    rw (map-append key entries (entry ∷ [])) (IsDistinct-push laws (map key entries) (key entry) once (none_has same key entries (key entry) (nothing_mapped gives _ none)))

pub side_laws : IsEquivalence same_side
side_laws = record { refl = λ x. grind (arith, nat_tests); symm = λ x y. grind (arith, nat_tests); congr = λ x y z same. grind (arith, nat_tests) }

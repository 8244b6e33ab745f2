-- Static routes one by one.
use Rattle.std.proofs.Common.{◌≡◌, ℕ, ◌+◌, ◌<◌, List, [], ◌∷◌, ◌++◌, Option, Some, None, take, drop, length, get_or, refl, ap, subst, ◌∙◌}
use Rattle.std.specs.List.{filter_map}
use Rattle.std.specs.Option.{option_to_list}
use Rattle.std.proofs.lemmas.List.{take-append-drop, take_more}
use Rattle.std.proofs.lemmas.List.Elements.{filter_map-append}

one_given : {X Y : Type 0} (h : X → Option Y) (x : X) → filter_map h (x ∷ []) ≡ option_to_list (h x)
one_given {Y = Y} h x = by_case (h x) refl
  where
    by_case : (given : Option Y) → h x ≡ given → filter_map h (x ∷ []) ≡ option_to_list (h x)
    by_case None is = rw is refl
    by_case (Some y) is = rw is refl

-- what one more gives
pub given_more : {X Y : Type 0} (h : X → Option Y) (xs : List X) (i : ℕ) (d : X) → i < length xs
    → filter_map h (take (i + 1) xs) ≡ filter_map h (take i xs) ++ option_to_list (h (get_or xs i d))
given_more h xs i d within =
    ap (filter_map h) (take_more xs i d within) ∙ filter_map-append h (take i xs) (get_or xs i d ∷ []) ∙ ap (λ ys. filter_map h (take i xs) ++ ys) (one_given h (get_or xs i d))

-- the first that is given, where none is given before
pub first_given : {X Y : Type 0} (h : X → Option Y) (xs : List X) (i : ℕ) (d : X) (y : Y) → i < length xs → filter_map h (take i xs) ≡ [] → h (get_or xs i d) ≡ Some y
    → filter_map h xs ≡ y ∷ filter_map h (drop (i + 1) xs)
first_given h xs i d y within none is =
    let front : filter_map h (take (i + 1) xs) ≡ y ∷ [] = given_more h xs i d within ∙ rw (none, is) refl in
    subst (λ ys. filter_map h ys ≡ y ∷ filter_map h (drop (i + 1) xs)) (take-append-drop (i + 1) xs)
    (filter_map-append h (take (i + 1) xs) (drop (i + 1) xs) ∙ rw front refl)

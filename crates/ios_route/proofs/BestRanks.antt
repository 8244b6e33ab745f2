-- The best routes are those of the best rank.
use Rattle.std.proofs.Common.{◌≡◌, ◌⊎◌, inl, inr, ℕ, Bool, true, false, ◌&&◌, ◌==◌, List, [], ◌∷◌, map, fold, Option, Some, None, refl, ap, sym, subst, arith}
use Rattle.std.specs.List.{filter, list_any}
use Rattle.std.proofs.lemmas.Bool.{and_from, and_parts, or_cases, or_from, or_left, or_parts, or_right}
use Rattle.std.proofs.lemmas.Bool.Decides.{nat_tests}
use Rattle.ios_route.specs.declared.routes.Active.{Active}
use Rattle.ios_route.specs.Best.{best_choices, choice_by, covers, is_best}
use Rattle.ios_route.specs.Ranks.{best_rank, choices_left, foremost, has_rank, is_ahead, rank, rank_after}

-- the route is for the address, and is of this rank
abbrev is_of : ℕ → ℕ × ℕ → Active → Bool
is_of address best route = covers address route && (route.len == best.0 && route.distance == best.1)

-- the route is for the address, and its rank is ahead of this one
abbrev is_before : ℕ → ℕ × ℕ → Active → Bool
is_before address best route = covers address route && is_ahead (rank route) best

not_ahead_of_itself : (x : ℕ × ℕ) → is_ahead x x ≡ false
not_ahead_of_itself x = grind (arith, nat_tests)

not_ahead_trans : (x y z : ℕ × ℕ) → is_ahead x y ≡ false → is_ahead y z ≡ false → is_ahead x z ≡ false
not_ahead_trans x y z first second = grind (arith, nat_tests)

-- of two ranks neither of which is ahead both parts are the same
behind : (x y : ℕ × ℕ) → is_ahead x y ≡ false → (x.0 == y.0 && x.1 == y.1) ≡ false → is_ahead y x ≡ true
behind x y first second = grind (arith, nat_tests)

foremost_first : (a this : ℕ × ℕ) → (is_ahead a (foremost (Some a) this) ≡ false) × (is_ahead this (foremost (Some a) this) ≡ false)
foremost_first a this = grind (arith, nat_tests)

equal_pair : (x y : ℕ × ℕ) → (x.0 == y.0 && x.1 == y.1) ≡ true → x ≡ y
equal_pair x y same =
    let parts = and_parts (x.0 == y.0) (x.1 == y.1) same in
    let first : x.0 ≡ y.0 = grind (arith, nat_tests, parts.0) in
    let second : x.1 ≡ y.1 = grind (arith, nat_tests, parts.1) in
    λ i. (first i, second i)

pub some_of_more : {X : Type 0} (p q : X → Bool) → ((x : X) → p x ≡ true → q x ≡ true) → (xs : List X) → list_any p xs ≡ true → list_any q xs ≡ true
some_of_more p q more [] some = some
some_of_more p q more (x ∷ xs) some = elim (or_cases (p x) (list_any p xs) some) [
  | inl first ↦ or_left (q x) (list_any q xs) (more x first)
  | inr later ↦ or_right (q x) (list_any q xs) (some_of_more p q more xs later)
]

-- what the best rank is, from one before on
data IsBestFrom (address : ℕ) (before : Option (ℕ × ℕ)) (routes : List Active) : Option (ℕ × ℕ) → Type 0 where
  nowhere : before ≡ None → list_any (covers address) routes ≡ false → IsBestFrom address before routes None
  ranked : (best : ℕ × ℕ) → list_any (is_before address best) routes ≡ false → ((a : ℕ × ℕ) → before ≡ Some a → is_ahead a best ≡ false)
      → (before ≡ Some best) ⊎ (list_any (is_of address best) routes ≡ true) → IsBestFrom address before routes (Some best)

-- the foremost is one of the two, and neither is ahead of what it is not ahead of
foremost_is : (before : Option (ℕ × ℕ)) (this : ℕ × ℕ) → (foremost before this ≡ this) ⊎ (before ≡ Some (foremost before this))
foremost_is None this = inl refl
foremost_is (Some a) this = by_case (is_ahead this a) refl
  where
    by_case : (b : Bool) → is_ahead this a ≡ b → (foremost (Some a) this ≡ this) ⊎ (Some a ≡ Some (foremost (Some a) this))
    by_case true is = inl (rw is refl)
    by_case false is = inr (rw is refl)

this_behind : (before : Option (ℕ × ℕ)) (this best : ℕ × ℕ) → is_ahead (foremost before this) best ≡ false → is_ahead this best ≡ false
this_behind None this best none = none
this_behind (Some a) this best none = not_ahead_trans this (foremost (Some a) this) best (foremost_first a this).1 none

before_behind : (before : Option (ℕ × ℕ)) (this best a : ℕ × ℕ) → is_ahead (foremost before this) best ≡ false → before ≡ Some a → is_ahead a best ≡ false
before_behind None this best a none is = absurd (cc)
before_behind (Some b) this best a none is =
    let same : a ≡ b = cc in rw same (not_ahead_trans b (foremost (Some b) this) best (foremost_first b this).0 none)

of_its_rank : (address : ℕ) (route : Active) (best : ℕ × ℕ) → covers address route ≡ true → rank route ≡ best → is_of address best route ≡ true
of_its_rank address route best holds same = rw (sym same, holds) (same_parts route.len route.distance)
  where
    same_parts : (x y : ℕ) → (x == x && y == y) ≡ true
    same_parts x y = grind (arith, nat_tests)

best_apart : (address : ℕ) (before : Option (ℕ × ℕ)) (route : Active) (routes : List Active) (result : Option (ℕ × ℕ)) → covers address route ≡ false
    → IsBestFrom address before routes result → IsBestFrom address before (route ∷ routes) result
best_apart address before route routes result fails (IsBestFrom.nowhere first later) = IsBestFrom.nowhere first (or_from (covers address route) (list_any (covers address) routes) fails later)
best_apart address before route routes result fails (IsBestFrom.ranked best later first which) =
    IsBestFrom.ranked best (or_from (is_before address best route) (list_any (is_before address best) routes) (rw fails refl) later) first
    (elim which [ inl same ↦ inl same | inr some ↦ inr (or_right (is_of address best route) (list_any (is_of address best) routes) some) ])

best_within : (address : ℕ) (before : Option (ℕ × ℕ)) (route : Active) (routes : List Active) (result : Option (ℕ × ℕ)) → covers address route ≡ true
    → IsBestFrom address (Some (foremost before (rank route))) routes result → IsBestFrom address before (route ∷ routes) result
best_within address before route routes result holds (IsBestFrom.nowhere first later) = absurd (cc)
best_within address before route routes result holds (IsBestFrom.ranked best later first which) =
    let none = first (foremost before (rank route)) refl in
    IsBestFrom.ranked best
    (or_from (is_before address best route) (list_any (is_before address best) routes) (rw (holds, this_behind before (rank route) best none) refl) later)
    (λ a is. before_behind before (rank route) best a none is) (by_case which (foremost_is before (rank route)))
  where
    by_case : (Some (foremost before (rank route)) ≡ Some best) ⊎ (list_any (is_of address best) routes ≡ true) → (foremost before (rank route) ≡ rank route) ⊎ (before ≡ Some (foremost before (rank route)))
        → (before ≡ Some best) ⊎ (list_any (is_of address best) (route ∷ routes) ≡ true)
    by_case (inr some) is = inr (or_right (is_of address best route) (list_any (is_of address best) routes) some)
    by_case (inl same) (inl this) = inr (or_left (is_of address best route) (list_any (is_of address best) routes) (of_its_rank address route best holds (cc)))
    by_case (inl same) (inr a) = inl (cc)

best_step : (address : ℕ) (before : Option (ℕ × ℕ)) (route : Active) (routes : List Active) (b : Bool) → covers address route ≡ b
    → ((start : Option (ℕ × ℕ)) → IsBestFrom address start routes (fold (rank_after address) start routes))
    → IsBestFrom address before (route ∷ routes) (fold (rank_after address) (rank_after address before route) routes)
best_step address before route routes false fails from = rw fails (best_apart address before route routes (fold (rank_after address) before routes) fails (from before))
best_step address before route routes true holds from =
    let start : Option (ℕ × ℕ) = Some (foremost before (rank route)) in
    rw holds (best_within address before route routes (fold (rank_after address) start routes) holds (from start))

best_from : (address : ℕ) (before : Option (ℕ × ℕ)) (routes : List Active) → IsBestFrom address before routes (fold (rank_after address) before routes)
best_from address None [] = IsBestFrom.nowhere refl refl
best_from address (Some a) [] = IsBestFrom.ranked a refl (λ b same. let is : b ≡ a = cc in rw is (not_ahead_of_itself a)) (inl refl)
best_from address before (route ∷ routes) = best_step address before route routes (covers address route) refl (λ start. best_from address start routes)

-- of these routes, none is before the best rank, and some route is of it
best_alike : (address : ℕ) (all : List Active) (best : ℕ × ℕ) (route : Active) → list_any (is_before address best) all ≡ false → list_any (is_of address best) all ≡ true
    → is_before address best route ≡ false → is_best all address route ≡ (covers address route && (route.len == best.0 && route.distance == best.1))
best_alike address all best route none_before some behind_best = by_case (covers address route) (route.len == best.0 && route.distance == best.1) refl refl
  where
    of_rank : covers address route ≡ true → (route.len == best.0 && route.distance == best.1) ≡ true → list_any (λ other. covers address other && is_ahead (rank other) (rank route)) all ≡ false
    of_rank holds same =
        let is : rank route ≡ best = equal_pair (rank route) best same in
        subst (λ r. list_any (λ other. covers address other && is_ahead (rank other) r) all ≡ false) (sym is) none_before

    unranked : covers address route ≡ true → (route.len == best.0 && route.distance == best.1) ≡ false → list_any (λ other. covers address other && is_ahead (rank other) (rank route)) all ≡ true
    unranked holds other =
        let fails : is_ahead (rank route) best ≡ false = rw holds at behind_best in
        let ahead = behind (rank route) best fails other in
        some_of_more (is_of address best) (λ o. covers address o && is_ahead (rank o) (rank route))
        (λ o is. let parts = and_parts (covers address o) (o.len == best.0 && o.distance == best.1) is in
        let same : rank o ≡ best = equal_pair (rank o) best parts.1 in
        and_from (covers address o) (is_ahead (rank o) (rank route)) parts.0 (subst (λ r. is_ahead r (rank route) ≡ true) (sym same) ahead)) all some

    by_case : (b d : Bool) → covers address route ≡ b → (route.len == best.0 && route.distance == best.1) ≡ d → is_best all address route ≡ (covers address route && (route.len == best.0 && route.distance == best.1))
    by_case false d fails same = rw fails refl
    by_case true true holds same = rw (holds, same, of_rank holds same) refl
    by_case true false holds same = rw (holds, same, unranked holds same) refl

filter_alike : (address : ℕ) (all : List Active) (best : ℕ × ℕ) (routes : List Active) → list_any (is_before address best) all ≡ false → list_any (is_of address best) all ≡ true
    → list_any (is_before address best) routes ≡ false → filter (is_best all address) routes ≡ filter (has_rank address (Some best)) routes
filter_alike address all best [] none some behind_best = refl
filter_alike address all best (route ∷ routes) none some behind_best =
    let parts = or_parts (is_before address best route) (list_any (is_before address best) routes) behind_best in
    rw (best_alike address all best route none some parts.0, filter_alike address all best routes none some parts.1) refl

filter_none : (address : ℕ) (all routes : List Active) → list_any (covers address) routes ≡ false → filter (is_best all address) routes ≡ filter (has_rank address None) routes
filter_none address all [] none = refl
filter_none address all (route ∷ routes) none =
    let parts = or_parts (covers address route) (list_any (covers address) routes) none in
    rw (parts.0, filter_none address all routes parts.1) refl

pub best_are_ranked : (address : ℕ) (routes : List Active) → filter (is_best routes address) routes ≡ filter (has_rank address (best_rank address routes)) routes
best_are_ranked address routes = by_case (best_rank address routes) (best_from address None routes)
  where
    by_case : (best : Option (ℕ × ℕ)) → IsBestFrom address None routes best → filter (is_best routes address) routes ≡ filter (has_rank address best) routes
    by_case None (IsBestFrom.nowhere first none) = filter_none address routes routes none
    by_case (Some best) (IsBestFrom.ranked same none first (inr some)) = filter_alike address routes best routes none some none
    by_case (Some best) (IsBestFrom.ranked same none first (inl is)) = absurd (cc)

pub best_by_rank : (address : ℕ) (routes : List Active) → best_choices routes address ≡ choices_left address (best_rank address routes) routes
best_by_rank address routes = ap (map (choice_by address)) (best_are_ranked address routes)

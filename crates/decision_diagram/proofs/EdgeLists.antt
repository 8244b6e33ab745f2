-- Lists of edges in the memory of a program, one for each branch.
use Rattle.std.proofs.Common.{◌≡◌, ℕ, ◌+◌, ◌-◌, ◌<◌, ◌≤◌, nat_lt, false, List, [], ◌∷◌, ◌++◌, map, length, get_or, set, replicate, if◌then◌else◌, sym, ap, ap₂, ◌∙◌, arith}
use Rattle.std.proofs.lemmas.Bool.Decides.{nat_tests}
use Rattle.std.proofs.lemmas.List.{length-map, map-set, map-append, get_or-map, replicate_more}
use Rattle.decision_diagram.specs.Guarded.{edges_into, with_edge}

added : {X : Type 0} (f : X → List ℕ) (xs : List X) (x y : X) (place edge : ℕ) → 2 ≤ place → place < length (map f xs) + 2 → x ≡ get_or xs (place - 2) x → f y ≡ f x ++ edge ∷ []
    → map f (set xs (place - 2) y) ≡ with_edge (map f xs) place edge
added f xs x y place edge branch within is longer =
    let test : nat_lt place 2 ≡ false = grind (arith, nat_tests) in
    let long : length (map f xs) ≡ length xs = length-map xs f in
    let there : f x ≡ edges_into (map f xs) place = ap f is ∙ sym (get_or-map f xs (place - 2) x [] (omega (arith, long, within, branch))) in
    map-set f xs (place - 2) y
    ∙ ap (set (map f xs) (place - 2)) (longer ∙ ap (λ edges. edges ++ edge ∷ []) there)
    ∙ ap (λ t. if t then map f xs else set (map f xs) (place - 2) (edges_into (map f xs) place ++ edge ∷ [])) (sym test)

pub edge_added : {X : Type 0} (f : X → List ℕ) (xs : List X) (lists : List (List ℕ)) (x y : X) (at place edge : ℕ) → at ≡ place → map f xs ≡ lists → 2 ≤ at → place < length lists + 2 → x ≡ get_or xs (at - 2) x → f y ≡ f x ++ edge ∷ []
    → map f (set xs (at - 2) y) ≡ with_edge lists place edge
edge_added f xs lists x y at place edge here view branch within is longer =
    let inside : at < length (map f xs) + 2 = omega (arith, here, within, ap length view) in
    added f xs x y at edge branch inside is longer ∙ ap₂ (λ ls p. with_edge ls p edge) view here

pub none_added : {X : Type 0} (f : X → List ℕ) (xs : List X) (x : X) (count : ℕ) → map f xs ≡ replicate count [] → f x ≡ [] → map f (xs ++ x ∷ []) ≡ replicate (count + 1) []
none_added f xs x count so_far none =
    map-append f xs (x ∷ []) ∙ ap₂ (λ front last. front ++ last ∷ []) so_far none ∙ replicate_more count []

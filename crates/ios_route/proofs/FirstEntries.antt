-- The last of some entries comes before those behind them.
use Rattle.std.proofs.Common.{◌≡◌, ℕ, Bool, cond, List, [], ◌∷◌, ◌++◌, Option, Some, take, drop, length, refl, ap, sym, subst, ◌∙◌, append_assoc}
use Rattle.std.proofs.lemmas.List.{take-append-drop}
use Rattle.std.proofs.Math.Seq.{drop-append_seam, take-append_seam}
use Rattle.std.specs.Map.{lookup}
use Rattle.std.specs.Cmp.{IsEquivalence}

pub drop_before_last : {X : Type 0} (n : ℕ) (xs front : List X) (last : X) → take n xs ≡ front ++ last ∷ [] → drop (length front) xs ≡ last ∷ drop n xs
drop_before_last n xs front last taken =
    let whole : front ++ last ∷ drop n xs ≡ xs = sym (append_assoc front (last ∷ []) (drop n xs)) ∙ ap (λ f. f ++ drop n xs) (sym taken) ∙ take-append-drop n xs in
    subst (λ w. drop (length front) w ≡ last ∷ drop n xs) whole (drop-append_seam front (last ∷ drop n xs))

pub take_before_last : {X : Type 0} (n : ℕ) (xs front : List X) (last : X) → take n xs ≡ front ++ last ∷ [] → front ≡ take (length front) xs
take_before_last n xs front last taken =
    let whole : front ++ last ∷ drop n xs ≡ xs = sym (append_assoc front (last ∷ []) (drop n xs)) ∙ ap (λ f. f ++ drop n xs) (sym taken) ∙ take-append-drop n xs in
    subst (λ w. front ≡ take (length front) w) whole (sym (take-append_seam front (last ∷ drop n xs)))

-- a value that is put in front is found first
pub found_first : {K V : Type 0} (eq : K → K → Bool) → IsEquivalence eq → (q k : K) (v : V) (found : Option V) (entries : List (K × V)) → found ≡ lookup (eq q) entries
    → cond (eq k q) (Some v) found ≡ lookup (eq q) ((k, v) ∷ entries)
found_first eq laws q k v found entries same = rw (laws.symm k q, same) refl

-- Words joined, as texts and as words.
use Rattle.std.proofs.Common.{◌≡◌, ℕ, List, [], ◌∷◌, ◌++◌, refl, ap}
use Rattle.std.specs.Borrow.{Bor}
use Rattle.std.specs.List.{flat_map, join_by}
use Rattle.ios_lex.specs.Refusal.{texts}
use Rattle.ios_lex.specs.Openings.{joined}
use Rattle.std.proofs.Common.{codes}

joined_behind : (separator : List ℕ) (words : List (Bor (List ℕ))) → flat_map (λ (text : Bor (List ℕ)). separator ++ text.now) words ≡ flat_map (λ (word : List ℕ). separator ++ word) (texts words)
joined_behind separator [] = refl
joined_behind separator (first ∷ others) = ap (λ more. (separator ++ first.now) ++ more) (joined_behind separator others)

pub joined_texts : (words : List (Bor (List ℕ))) → join_by (λ (text : Bor (List ℕ)). text.now) (codes " ") words ≡ joined (texts words)
joined_texts [] = refl
joined_texts (first ∷ others) = ap (λ more. first.now ++ more) (joined_behind (codes " ") others)

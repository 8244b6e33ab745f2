-- The words of the command line.
use Rattle.std.specs.Prelude.{◌≡◌, ℕ, List, [], ◌∷◌, slice_index}

-- there is one word, and it names the script; it begins with a dash, 45, only if it is the dash alone
pub record IsForm (words : List (List ℕ)) (script : List ℕ) : Type 0 where
  pub one : words ≡ script ∷ []
  pub plain : slice_index script 0 ≡ 45 → script ≡ 45 ∷ []

-- Words that stand one behind the other.
use Rattle.std.specs.Prelude.{◌≡◌, ℕ, List, ◌++◌}

abbrev pub Words : Type 0
Words = List (List ℕ)

-- words of the first kind and then words of the second
pub record Then (First Second : Words → Type 0) (words : Words) : Type 0 where
  pub front : Words
  pub back : Words
  pub whole : words ≡ front ++ back
  pub first : First front
  pub second : Second back

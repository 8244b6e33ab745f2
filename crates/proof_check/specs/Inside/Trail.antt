-- How a table remembers which of its variables have a value.
use Rattle.std.specs.Prelude.{◌≡◌, ℕ, ◌<◌, ◌+◌, Bool, Option, Some, None, List, [], ◌∷◌, length, replicate, take, slice_set}
use Rattle.std.specs.List.{All}

-- the table when these variables have lost their values
abbrev pub released : List (Option Bool) → List ℕ → List (Option Bool)
released table [] = table
released table (var ∷ vars) = slice_set (released table vars) var None

abbrev pub unset_count : List (Option Bool) → ℕ
unset_count [] = 0
unset_count (None ∷ values) = 1 + unset_count values
unset_count (Some value ∷ values) = unset_count values

-- the first `count` places of the trail name each variable that has a value, once; and it has a place for each variable
pub record IsTrail (table : List (Option Bool)) (trail : List ℕ) (count : ℕ) : Type 0 where
  pub places : length trail ≡ length table
  pub once : count + unset_count table ≡ length table
  pub in_range : All (λ var. var < length table) (take count trail)
  pub every : released table (take count trail) ≡ replicate (length table) None

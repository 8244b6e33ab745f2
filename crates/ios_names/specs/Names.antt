-- Names, each once, in the order in which they came.
use Rattle.std.specs.Prelude.{ℕ, List, [], ◌∷◌, ◌++◌}
use Rattle.std.specs.Bool.{if◌then◌else◌}
use Rattle.std.specs.List.{list_any}
use Rattle.std.specs.Str.{bytes_eq}

-- the place of a name in a table is a number of 16 bits
abbrev pub most_names : ℕ
most_names = 65536

-- a name that is not there yet comes behind the others
abbrev pub with_name : List (List ℕ) → List ℕ → List (List ℕ)
with_name known name = if list_any (bytes_eq name) known then known else known ++ name ∷ []

-- each of the names in turn
abbrev pub with_names : List (List ℕ) → List (List ℕ) → List (List ℕ)
with_names known [] = known
with_names known (name ∷ names) = with_names (with_name known name) names

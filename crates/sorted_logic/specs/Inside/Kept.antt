-- How a signature is kept: a map of names beside its declarations.
use Rattle.std.specs.Prelude.{◌≡◌, ℕ, suc, Bool, false, ◌||◌, List, [], ◌∷◌, ◌++◌, Option, option_map, is_some, find}
use Rattle.std.specs.List.{list_any}
use Rattle.std.specs.Str.{bytes_eq}
use Rattle.sorted_logic.specs.declared.declarations.SortDecl.{SortDecl}
use Rattle.sorted_logic.specs.declared.declarations.Symbol.{Symbol}
use Rattle.sorted_logic.specs.declared.declarations.Symbol.TheVariants as symbol
use Rattle.sorted_logic.specs.Adding.{symbol_of}
use Rattle.sorted_logic.specs.Field.{field_names}
use Rattle.sorted_logic.specs.Signature.{Signature, IsSignature}

pub record Meant : Type 0 where
  pub name : List ℕ
  pub symbol : Symbol

-- what a name stands for in a map
abbrev pub meaning : List Meant → List ℕ → Option Symbol
meaning map name = option_map (λ m. m.symbol) (find (λ m. bytes_eq name m.name) map)

-- a name is in a map, or is that of a field of requests
abbrev pub is_known : List Meant → List ℕ → Bool
is_known map name = is_some (meaning map name) || list_any (bytes_eq name) field_names

-- a sort's name, and its place
abbrev pub meant_sort : ℕ → SortDecl → Meant
meant_sort place d = record { name = d.name; symbol = symbol.Sort (record { 0 = place }) }

-- those of sorts that stand one behind the other
abbrev pub meant_sorts : ℕ → List SortDecl → List Meant
meant_sorts first [] = []
meant_sorts first (d ∷ more) = meant_sort first d ∷ meant_sorts (suc first) more

-- one of the sorts has a name that is known where those before it are added
abbrev pub any_known : List Meant → ℕ → List SortDecl → Bool
any_known map first [] = false
any_known map first (d ∷ more) = is_known map d.name || any_known (map ++ meant_sort first d ∷ []) (suc first) more

-- the declarations are a signature, and the map has each name that is declared with what it stands for, and no other
pub record IsKept (names : List Meant) (sig : Signature) : Type 0 where
  pub signature : IsSignature sig
  pub meant : (name : List ℕ) → meaning names name ≡ symbol_of sig name

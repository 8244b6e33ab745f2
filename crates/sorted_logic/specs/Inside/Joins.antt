-- How a join is made: where each sort of the second signature stands, and its declarations with these places.
use Rattle.std.specs.Prelude.{ℕ, suc, List, [], ◌∷◌, ◌++◌, Option, Some, None, map, filter, slice_get, option_map}
use Rattle.std.specs.Option.{unwrap_or}
use Rattle.sorted_logic.specs.declared.declarations.FuncDecl.{FuncDecl}
use Rattle.sorted_logic.specs.declared.declarations.RelDecl.{RelDecl}
use Rattle.sorted_logic.specs.declared.declarations.SortDecl.{SortDecl}
use Rattle.sorted_logic.specs.declared.declarations.Symbol.{Symbol}
use Rattle.sorted_logic.specs.declared.declarations.Symbol.TheVariants as symbol
use Rattle.sorted_logic.specs.declared.term.Sort.{Sort}
use Rattle.sorted_logic.specs.Adding.{symbol_of}
use Rattle.sorted_logic.specs.Joining.{is_new}
use Rattle.sorted_logic.specs.Signature.{Signature}

-- where a sort stands whose name stands for this in the first signature, given the next place behind it
abbrev pub place_of : ℕ → Option Symbol → Sort
place_of next (Some (symbol.Sort place)) = place
place_of next other = record { 0 = next }

abbrev pub next_of : ℕ → Option Symbol → ℕ
next_of next None = suc next
next_of next (Some other) = next

-- the places of sorts in the join
abbrev pub places : Signature → ℕ → List SortDecl → List Sort
places a next [] = []
places a next (d ∷ more) = place_of next (symbol_of a d.name) ∷ places a (next_of next (symbol_of a d.name)) more

abbrev pub moved_by : List Sort → Sort → Sort
moved_by places s = unwrap_or (slice_get places s.0) s

abbrev pub sort_by : List Sort → SortDecl → SortDecl
sort_by places d = record d { under = option_map (moved_by places) d.under }

abbrev pub function_by : List Sort → FuncDecl → FuncDecl
function_by places d = record d { args = map (moved_by places) d.args; result = moved_by places d.result }

abbrev pub relation_by : List Sort → RelDecl → RelDecl
relation_by places d = record d { args = map (moved_by places) d.args }

abbrev pub pair_by : List Sort → Sort × Sort → Sort × Sort
pair_by places pair = (moved_by places pair.0, moved_by places pair.1)

abbrev pub new_sorts : Signature → List SortDecl → List SortDecl
new_sorts a decls = filter (λ d. is_new a d.name) decls

abbrev pub new_functions : Signature → List FuncDecl → List FuncDecl
new_functions a decls = filter (λ d. is_new a d.name) decls

abbrev pub new_relations : Signature → List RelDecl → List RelDecl
new_relations a decls = filter (λ d. is_new a d.name) decls

abbrev pub with_functions : Signature → List FuncDecl → Signature
with_functions sig decls = record sig { functions = sig.functions ++ decls }

abbrev pub with_relations : Signature → List RelDecl → Signature
with_relations sig decls = record sig { relations = sig.relations ++ decls }

abbrev pub with_pairs : Signature → List (Sort × Sort) → Signature
with_pairs sig pairs = record sig { disjoint = sig.disjoint ++ pairs }

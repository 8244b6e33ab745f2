-- The join of two signatures: the first, and what the second alone declares.
use Rattle.std.specs.Prelude.{ℕ, ◌+◌, Bool, true, false, not, ◌&&◌, ◌||◌, ◌==◌, List, [], ◌∷◌, ◌++◌, Option, Some, None, IsTrue, length, map, filter, take, slice_get, option_map, is_none, count_by}
use Rattle.std.specs.List.{list_any}
use Rattle.std.specs.Option.{option_map_or}
use Rattle.std.specs.Str.{bytes_eq}
use Rattle.sorted_logic.specs.declared.declarations.FuncDecl.{FuncDecl}
use Rattle.sorted_logic.specs.declared.declarations.RelDecl.{RelDecl}
use Rattle.sorted_logic.specs.declared.declarations.SortDecl.{SortDecl}
use Rattle.sorted_logic.specs.declared.declarations.Symbol.{Symbol}
use Rattle.sorted_logic.specs.declared.declarations.Symbol.TheVariants as symbol
use Rattle.sorted_logic.specs.declared.fault.JoinFault.{JoinFault}
use Rattle.sorted_logic.specs.declared.fault.JoinFault.TheVariants as join_fault
use Rattle.sorted_logic.specs.declared.term.Sort.{Sort}
use Rattle.sorted_logic.specs.Adding.{symbol_of}
use Rattle.sorted_logic.specs.Signature.{Signature}

-- the first signature declares no such name
abbrev pub is_new : Signature → List ℕ → Bool
is_new a name = is_none (symbol_of a name)

abbrev pub sort_name : Signature → ℕ → List ℕ
sort_name sig s = option_map_or (λ d. d.name) (slice_get sig.sorts s) []

abbrev pub sort_names : Signature → List Sort → List (List ℕ)
sort_names sig sorts = map (λ s. sort_name sig s.0) sorts

-- Where a name is declared in both, the two are alike.

abbrev pub same_option : {A : Type 0} → (A → A → Bool) → Option A → Option A → Bool
same_option same (Some x) (Some y) = same x y
same_option same None None = true
same_option same _ _ = false

abbrev pub same_names : List (List ℕ) → List (List ℕ) → Bool
same_names [] [] = true
same_names (x ∷ xs) (y ∷ ys) = bytes_eq x y && same_names xs ys
same_names _ _ = false

-- two sorts are alike: they agree in the name of the supersort and in the bits
abbrev pub alike_sorts : Signature → Signature → SortDecl → SortDecl → Bool
alike_sorts a b left right =
    same_option bytes_eq (option_map (λ s. sort_name a s.0) left.under) (option_map (λ s. sort_name b s.0) right.under)
    && same_option (λ x y. x == y) left.bits right.bits

-- two functions: in the names of the sorts of their arguments and results
abbrev pub alike_functions : Signature → Signature → FuncDecl → FuncDecl → Bool
alike_functions a b left right = same_names (sort_names a left.args) (sort_names b right.args)
    && bytes_eq (sort_name a left.result.0) (sort_name b right.result.0)

abbrev pub alike_relations : Signature → Signature → RelDecl → RelDecl → Bool
alike_relations a b left right = same_names (sort_names a left.args) (sort_names b right.args)

-- what the first signature declares by a name of the second is of another kind, or not alike
abbrev pub sort_clashes : Signature → Signature → SortDecl → Option Symbol → Bool
sort_clashes a b d (Some (symbol.Sort s)) =
    option_map_or (λ left. not (alike_sorts a b left d)) (slice_get a.sorts s.0) true
sort_clashes a b d (Some other) = true
sort_clashes a b d None = false

abbrev pub function_clashes : Signature → Signature → FuncDecl → Option Symbol → Bool
function_clashes a b d (Some (symbol.Func f)) =
    option_map_or (λ left. not (alike_functions a b left d)) (slice_get a.functions f.0) true
function_clashes a b d (Some other) = true
function_clashes a b d None = false

abbrev pub relation_clashes : Signature → Signature → RelDecl → Option Symbol → Bool
relation_clashes a b d (Some (symbol.Rel r)) =
    option_map_or (λ left. not (alike_relations a b left d)) (slice_get a.relations r.0) true
relation_clashes a b d (Some other) = true
relation_clashes a b d None = false

-- some name is declared in both, and not alike
abbrev pub clash : Signature → Signature → Bool
clash a b = list_any (λ d. sort_clashes a b d (symbol_of a d.name)) b.sorts
    || list_any (λ d. function_clashes a b d (symbol_of a d.name)) b.functions
    || list_any (λ d. relation_clashes a b d (symbol_of a d.name)) b.relations

-- Where none clashes, there is a join.

-- where a sort of the second stands in the join: where the first has it, or behind those of the first, with the new ones before it
abbrev pub place_in_join : Signature → Signature → ℕ → Option Symbol → ℕ
place_in_join a b s (Some (symbol.Sort place)) = place.0
place_in_join a b s other = length a.sorts + count_by (λ d. is_new a d.name) (take s b.sorts)

abbrev pub joined_place : Signature → Signature → ℕ → ℕ
joined_place a b s = place_in_join a b s (symbol_of a (sort_name b s))

abbrev pub joined_sort : Signature → Signature → Sort → Sort
joined_sort a b s = record { 0 = joined_place a b s.0 }

-- a declaration of the second as the join has it
abbrev pub moved_sort : Signature → Signature → SortDecl → SortDecl
moved_sort a b d = record d { under = option_map (joined_sort a b) d.under }

abbrev pub moved_function : Signature → Signature → FuncDecl → FuncDecl
moved_function a b d = record d { args = map (joined_sort a b) d.args; result = joined_sort a b d.result }

abbrev pub moved_relation : Signature → Signature → RelDecl → RelDecl
moved_relation a b d = record d { args = map (joined_sort a b) d.args }

abbrev pub moved_pair : Signature → Signature → Sort × Sort → Sort × Sort
moved_pair a b pair = (joined_sort a b pair.0, joined_sort a b pair.1)

-- the first signature's declarations, then those of the second that it lacks, in order, and the disjoint pairs of both
abbrev pub joined : Signature → Signature → Signature
joined a b = record {
  sorts = a.sorts ++ map (moved_sort a b) (filter (λ d. is_new a d.name) b.sorts);
  functions = a.functions ++ map (moved_function a b) (filter (λ d. is_new a d.name) b.functions);
  relations = a.relations ++ map (moved_relation a b) (filter (λ d. is_new a d.name) b.relations);
  disjoint = a.disjoint ++ map (moved_pair a b) b.disjoint;
}

-- why there may be no join, given whether some name is declared in two ways
abbrev pub IsJoinReason : Bool → JoinFault → Type 0
IsJoinReason clashes join_fault.Clash = IsTrue clashes
IsJoinReason clashes join_fault.NoMemory = Unit {0}

-- What is declared, and when a declaration is refused.
use Rattle.std.specs.Prelude.{ℕ, Bool, ◌||◌, List, [], ◌∷◌, ◌++◌, Option, IsTrue, option_map, position, false}
use Rattle.std.specs.List.{list_any}
use Rattle.std.specs.Option.{option_or}
use Rattle.std.specs.Str.{bytes_eq}
use Rattle.sorted_logic.specs.declared.declarations.FuncDecl.{FuncDecl}
use Rattle.sorted_logic.specs.declared.declarations.RelDecl.{RelDecl}
use Rattle.sorted_logic.specs.declared.declarations.SortDecl.{SortDecl}
use Rattle.sorted_logic.specs.declared.declarations.Symbol.{Symbol}
use Rattle.sorted_logic.specs.declared.declarations.Symbol.TheVariants as symbol
use Rattle.sorted_logic.specs.declared.fault.SigFault.{SigFault}
use Rattle.sorted_logic.specs.declared.fault.SigFault.TheVariants as sig_fault
use Rattle.sorted_logic.specs.declared.term.Sort.{Sort}
use Rattle.sorted_logic.specs.Field.{field_names}
use Rattle.sorted_logic.specs.Signature.{Signature, below, names}

-- a name is declared, or is that of a field of requests
abbrev pub is_taken : Signature → List ℕ → Bool
is_taken sig name = list_any (bytes_eq name) (names sig) || list_any (bytes_eq name) field_names

-- the two sorts are one, or one lies below the other
abbrev pub are_comparable : Signature → ℕ → ℕ → Bool
are_comparable sig s t = below sig s t || below sig t s

-- why a declaration may be refused, given whether its name is taken and whether its sorts are comparable
abbrev pub IsReason : Bool → Bool → SigFault → Type 0
IsReason taken comparable sig_fault.Duplicate = IsTrue taken
IsReason taken comparable sig_fault.IllSorted = IsTrue comparable
IsReason taken comparable sig_fault.NoMemory = Unit {0}

abbrev pub with_sorts : Signature → List SortDecl → Signature
with_sorts sig decls = record sig { sorts = sig.sorts ++ decls }

-- one of the sorts has a name that is taken where those before it are added
abbrev pub any_taken : Signature → List SortDecl → Bool
any_taken sig [] = false
any_taken sig (d ∷ more) = is_taken sig d.name || any_taken (with_sorts sig (d ∷ [])) more

abbrev pub with_function : Signature → FuncDecl → Signature
with_function sig decl = record sig { functions = sig.functions ++ decl ∷ [] }

abbrev pub with_relation : Signature → RelDecl → Signature
with_relation sig decl = record sig { relations = sig.relations ++ decl ∷ [] }

abbrev pub with_disjoint : Signature → Sort × Sort → Signature
with_disjoint sig pair = record sig { disjoint = sig.disjoint ++ pair ∷ [] }

-- what a name stands for
abbrev pub symbol_of : Signature → List ℕ → Option Symbol
symbol_of sig name = option_or (option_map (λ s. symbol.Sort (record { 0 = s })) (position (λ d. bytes_eq name d.name) sig.sorts))
    (option_or (option_map (λ f. symbol.Func (record { 0 = f })) (position (λ d. bytes_eq name d.name) sig.functions))
    (option_map (λ r. symbol.Rel (record { 0 = r })) (position (λ d. bytes_eq name d.name) sig.relations)))

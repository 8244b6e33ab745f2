-- What values of the first inputs settle: the value that a node has whatever the other inputs are. None where they settle
-- nothing. The search is stated by it, and no public call.
use Rattle.std.specs.Prelude.{◌≡◌, ◌⊎◌, ◌<◌, ℕ, length, Bool, true, false, not, Option, Some, None, IfSome, List, [], ◌∷◌, ◌++◌, fold, slice_get, slice_index_or}
use Rattle.std.specs.List.{AllByRecursion}
use Rattle.std.specs.Option.{option_map}
use Rattle.circuit.specs.declared.gate.Gate.{Gate}
use Rattle.circuit.specs.declared.gate.Gate.TheVariants as gate

-- what is settled of a node; false past the end, as `value_at` has it
abbrev pub settled_at : List (Option Bool) → ℕ → Option Bool
settled_at table place = slice_index_or table place (Some false)

-- false as soon as one side is
abbrev pub settled_and : Option Bool → Option Bool → Option Bool
settled_and (Some false) other = Some false
settled_and (Some true) other = other
settled_and None (Some false) = Some false
settled_and None (Some true) = None
settled_and None None = None

-- true as soon as one side is
abbrev pub settled_or : Option Bool → Option Bool → Option Bool
settled_or (Some true) other = Some true
settled_or (Some false) other = other
settled_or None (Some true) = Some true
settled_or None (Some false) = None
settled_or None None = None

abbrev pub settled_all : (ℕ → Option Bool) → List ℕ → Option Bool
settled_all node [] = Some true
settled_all node (part ∷ parts) = settled_and (node part) (settled_all node parts)

abbrev pub settled_any : (ℕ → Option Bool) → List ℕ → Option Bool
settled_any node [] = Some false
settled_any node (part ∷ parts) = settled_or (node part) (settled_any node parts)

-- the part that the condition chooses; where it is not settled, what both parts agree on
abbrev pub settled_ite : Option Bool → Option Bool → Option Bool → Option Bool
settled_ite (Some true) a b = a
settled_ite (Some false) a b = b
settled_ite None (Some true) (Some true) = Some true
settled_ite None (Some false) (Some false) = Some false
settled_ite None a b = None

-- what is settled of a gate, given the first inputs and what is settled of the nodes before it
abbrev pub settled_value : List Bool → List (Option Bool) → Gate → Option Bool
settled_value chosen table (gate.Input place) = slice_get chosen place
settled_value chosen table (gate.And parts) = settled_all (settled_at table) parts
settled_value chosen table (gate.Or parts) = settled_any (settled_at table) parts
settled_value chosen table (gate.Not part) = option_map not (settled_at table part)
settled_value chosen table (gate.Ite condition a b) = settled_ite (settled_at table condition) (settled_at table a) (settled_at table b)

-- what is settled of all nodes, in order
unfoldable pub settled : List Gate → List Bool → List (Option Bool)
settled gates chosen = fold (λ so_far g. so_far ++ settled_value chosen so_far g ∷ []) [] gates

-- what was settled is settled alike
abbrev pub StaysSettled : Option Bool → Option Bool → Type 0
StaysSettled old new = IfSome old (λ v. new ≡ Some v)

abbrev pub IsAmong : ℕ → List ℕ → Type 0
IsAmong place [] = ⊥
IsAmong place (first ∷ rest) = (place ≡ first) ⊎ IsAmong place rest

-- each number is below those behind it
abbrev pub IsRising : List ℕ → Type 0
IsRising [] = Unit {0}
IsRising (first ∷ rest) = AllByRecursion (λ later. first < later) rest × IsRising rest

-- places of the table in order, and among them all of which nothing is settled
pub record HasUnsettled (table : List (Option Bool)) (places : List ℕ) : Type 0 where
  pub within : AllByRecursion (λ place. place < length table) places
  pub rising : IsRising places
  pub complete : (place : ℕ) → place < length table → settled_at table place ≡ None → IsAmong place places

-- What the nodes of a circuit are worth.
use Rattle.std.specs.Prelude.{◌≡◌, ℕ, ◌<◌, ◌≤◌, Bool, true, false, not, List, [], ◌∷◌, ◌++◌, length, take, fold, count_by, slice_index_or, if◌then◌else◌}
use Rattle.std.specs.List.{list_any, list_all, AllByRecursion}
use Rattle.circuit.specs.declared.gate.Gate.{Gate}
use Rattle.circuit.specs.declared.gate.Gate.TheVariants as gate

-- the value at a place of a list of values, and false past its end
abbrev pub value_at : List Bool → ℕ → Bool
value_at values place = slice_index_or values place false

-- the value of a gate, given the inputs and the values of the nodes before it
abbrev pub gate_value : List Bool → List Bool → Gate → Bool
gate_value inputs values (gate.Input place) = value_at inputs place
gate_value inputs values (gate.And parts) = list_all (value_at values) parts
gate_value inputs values (gate.Or parts) = list_any (value_at values) parts
gate_value inputs values (gate.Not part) = not (value_at values part)
gate_value inputs values (gate.Ite condition a b) = if value_at values condition then value_at values a else value_at values b

-- the values of all nodes, in order
unfoldable pub values : List Gate → List Bool → List Bool
values gates inputs = fold (λ so_far g. so_far ++ gate_value inputs so_far g ∷ []) [] gates

-- the value of one node
unfoldable pub value : List Gate → List Bool → ℕ → Bool
value gates inputs node = value_at (values gates inputs) node

abbrev pub is_input : Gate → Bool
is_input (gate.Input place) = true
is_input g = false

abbrev pub input_count : List Gate → ℕ
input_count gates = count_by is_input gates

-- these are nodes of the circuit
abbrev pub AreNodes : List Gate → List ℕ → Type 0
AreNodes gates nodes = AllByRecursion (λ node. node < length gates) nodes

-- the nodes that a gate is made of
abbrev pub parts_of : Gate → List ℕ
parts_of (gate.Input place) = []
parts_of (gate.And parts) = parts
parts_of (gate.Or parts) = parts
parts_of (gate.Not part) = part ∷ []
parts_of (gate.Ite condition a b) = condition ∷ a ∷ b ∷ []

-- if the gate is an input, then it is the one after this many
abbrev pub IsNumbered : ℕ → Gate → Type 0
IsNumbered count (gate.Input place) = place ≡ count
IsNumbered count (gate.And parts) = Unit {0}
IsNumbered count (gate.Or parts) = Unit {0}
IsNumbered count (gate.Not part) = Unit {0}
IsNumbered count (gate.Ite condition a b) = Unit {0}

-- if the gate is an input, then it is one of the first so many
abbrev pub IsInputBelow : ℕ → Gate → Type 0
IsInputBelow count (gate.Input place) = place < count
IsInputBelow count (gate.And parts) = Unit {0}
IsInputBelow count (gate.Or parts) = Unit {0}
IsInputBelow count (gate.Not part) = Unit {0}
IsInputBelow count (gate.Ite condition a b) = Unit {0}

-- a gate that may stand right after these
pub record IsNext (before : List Gate) (g : Gate) : Type 0 where
  pub parts : AreNodes before (parts_of g)
  pub number : IsNumbered (input_count before) g

-- each gate is made of nodes before it, and the inputs are numbered in order
abbrev pub IsCircuit : List Gate → Type 0
IsCircuit gates = (place : ℕ) (g : Gate) → place < length gates → IsNext (take place gates) (slice_index_or gates place g)

-- the new circuit has the nodes of the old one, each with the value that it had
pub record Extends (old new : List Gate) : Type 0 where
  pub longer : length old ≤ length new
  pub older : (inputs : List Bool) (node : ℕ) → node < length old → value new inputs node ≡ value old inputs node

-- the new circuit has more gates behind those of the old one, none of them an input
pub record Grows (old new : List Gate) : Type 0 where
  pub more : List Gate
  pub whole : new ≡ old ++ more
  pub inputs : input_count new ≡ input_count old

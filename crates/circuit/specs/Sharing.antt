-- Find or add: a circuit has each gate once, so that a gate that is there is found, and only a new one is added.
use Rattle.std.specs.Prelude.{ℕ, ◌==◌, ◌&&◌, Bool, false, List, [], ◌∷◌, ◌++◌, if◌then◌else◌}
use Rattle.std.specs.Cmp.Lexicographic.{pointwise}
use Rattle.std.specs.List.{list_any, position_or_len}
use Rattle.circuit.specs.declared.gate.Gate.{Gate}
use Rattle.circuit.specs.declared.gate.Gate.TheVariants as gate

-- two gates of one kind with the same parts
abbrev pub same_gate : Gate → Gate → Bool
same_gate (gate.Input number) (gate.Input other) = number == other
same_gate (gate.And parts) (gate.And others) = pointwise ◌==◌ parts others
same_gate (gate.Or parts) (gate.Or others) = pointwise ◌==◌ parts others
same_gate (gate.Not part) (gate.Not other) = part == other
same_gate (gate.Ite condition a b) (gate.Ite other c d) = (condition == other) && ((a == c) && (b == d))
same_gate g other = false

-- the place of the gate, or the place behind all where it is not among them
unfoldable pub node_of : List Gate → Gate → ℕ
node_of gates g = position_or_len (same_gate g) gates

-- the gates as they are where this one is among them, and else with it behind them
unfoldable pub with_gate : List Gate → Gate → List Gate
with_gate gates g = if list_any (same_gate g) gates then gates else gates ++ g ∷ []

-- a circuit, and one of its nodes
pub record Made : Type 0 where
  pub gates : List Gate
  pub node : ℕ

abbrev pub made : List Gate → ℕ → Made
made gates node = record { gates = gates; node = node }

abbrev pub found_or_added : List Gate → Gate → Made
found_or_added gates g = made (with_gate gates g) (node_of gates g)

-- a circuit, and a list of its nodes
pub record MadeAll : Type 0 where
  pub gates : List Gate
  pub nodes : List ℕ

abbrev pub made_all : List Gate → List ℕ → MadeAll
made_all gates nodes = record { gates = gates; nodes = nodes }

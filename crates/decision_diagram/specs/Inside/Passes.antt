-- What the two passes over a diagram keep: no public call is stated by these definitions.
use Rattle.std.specs.Prelude.{ℕ, ◌<◌, List, length}
use Rattle.std.specs.List.{AllByRecursion}
use Rattle.circuit.specs.declared.gate.Gate.{Gate}
use Rattle.circuit.specs.Value.{AreNodes}

-- all edges into the branches are nodes of the circuit
abbrev pub AreEdges : List Gate → List (List ℕ) → Type 0
AreEdges gates into = AllByRecursion (AreNodes gates) into

-- and so are these two
abbrev pub IsPair : List Gate → ℕ × ℕ → Type 0
IsPair gates edges = (edges.0 < length gates) × (edges.1 < length gates)

abbrev pub ArePairs : List Gate → List (ℕ × ℕ) → Type 0
ArePairs gates pairs = AllByRecursion (IsPair gates) pairs

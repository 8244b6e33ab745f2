-- The least inputs that make a node true.
use Rattle.std.specs.Prelude.{◌≡◌, ℕ, Bool, true, List, length}
use Rattle.circuit.specs.declared.gate.Gate.{Gate}
use Rattle.cnf.specs.Order.{LexLe}
use Rattle.circuit.specs.Value.{value, input_count}

-- a value for each input, with which the node is true
pub record Satisfies (gates : List Gate) (root : ℕ) (inputs : List Bool) : Type 0 where
  pub count : length inputs ≡ input_count gates
  pub holds : value gates inputs root ≡ true

pub record IsLeast (gates : List Gate) (root : ℕ) (inputs : List Bool) : Type 0 where
  pub satisfies : Satisfies gates root inputs
  pub least : (other : List Bool) → Satisfies gates root other → LexLe inputs other

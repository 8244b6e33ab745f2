-- What the clauses of a circuit say of it.
use Rattle.std.specs.Prelude.{◌≡◌, ◌↔◌, ℕ, Bool, true, List, length, take}
use Rattle.cnf.specs.Clauses.{IsModel, all_hold}
use Rattle.cnf.specs.Order.{IsLeast}
use Rattle.circuit.specs.declared.gate.Gate.{Gate}
use Rattle.circuit.specs.Clauses.{circuit_formula, completion, value_clauses}
use Rattle.circuit.specs.Least.{Satisfies}
use Rattle.circuit.specs.Least as inputs
use Rattle.circuit.specs.Value.{input_count}

-- the first values, one for each input
abbrev pub inputs_of : List Gate → List Bool → List Bool
inputs_of gates values = take (input_count gates) values

-- whatever the inputs are, the clauses of the gates hold of just one completion of them
abbrev pub HasOneCompletion : List Gate → Type 0
HasOneCompletion gates = (values : List Bool) → length values ≡ length gates
    → (all_hold values (value_clauses gates) ≡ true) ↔ (values ≡ completion gates (inputs_of gates values))

-- inputs that make the root true have a model, and each model begins with such inputs
pub record HasModelsOf (gates : List Gate) (root : ℕ) : Type 0 where
  pub model : (given : List Bool) → Satisfies gates root given
      → IsModel (length gates) (circuit_formula gates root).clauses (completion gates given)
  pub begins : (given : List Bool) → Satisfies gates root given
      → inputs_of gates (completion gates given) ≡ given
  pub given : (values : List Bool)
      → IsModel (length gates) (circuit_formula gates root).clauses values
      → Satisfies gates root (inputs_of gates values)

-- the least model begins with the least inputs
abbrev pub BeginsLeast : List Gate → ℕ → Type 0
BeginsLeast gates root = (values : List Bool)
    → IsLeast (length gates) (circuit_formula gates root).clauses values
    → inputs.IsLeast gates root (inputs_of gates values)

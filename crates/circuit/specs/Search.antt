-- What a search below a choice of the first inputs finds. The search is stated by it, and no public call.
use Rattle.std.specs.Prelude.{◌≡◌, ℕ, ◌<◌, Bool, List, [], ◌++◌, length, MatchBool}
use Rattle.circuit.specs.declared.gate.Gate.{Gate}
use Rattle.circuit.specs.Value.{IsCircuit}
use Rattle.circuit.specs.Support.{IsSupport}
use Rattle.cnf.specs.Order.{LexLe}
use Rattle.circuit.specs.Least.{Satisfies}

-- a circuit, one of its nodes, and the inputs that can change that node where nothing is chosen
pub record IsQuestion (gates : List Gate) (root : ℕ) (needed : List Bool) : Type 0 where
  pub circuit : IsCircuit gates
  pub within : root < length gates
  pub support : IsSupport gates root [] needed

-- among the inputs that begin with the choice, the least that make the root true
pub record IsLeastAfter (gates : List Gate) (root : ℕ) (chosen inputs : List Bool) : Type 0 where
  pub rest : List Bool
  pub whole : inputs ≡ chosen ++ rest
  pub satisfies : Satisfies gates root inputs
  pub least : (other : List Bool) → Satisfies gates root (chosen ++ other) → LexLe rest other

-- no inputs that begin with the choice make the root true
abbrev pub NoneAfter : List Gate → ℕ → List Bool → Type 0
NoneAfter gates root chosen = (rest : List Bool) → Satisfies gates root (chosen ++ rest) → ⊥

-- where inputs are found, they are in place of the chosen ones; else these are as before
abbrev pub Finds : List Gate → ℕ → List Bool → List Bool → List Bool → Bool → Type 0
Finds gates root chosen before after found = MatchBool found (IsLeastAfter gates root chosen after) (NoneAfter gates root chosen × (after ≡ before))

-- What an accepted derivation shows.
use Rattle.std.specs.Prelude.{ℕ, Bool, List, length}
use Rattle.cnf.specs.declared.lit.Lit.{Lit}
use Rattle.cnf.specs.Clauses.{IsModel}
use Rattle.certificates.specs.declared.derivation.Item.{Item}
use Rattle.proof_check.specs.Derivations.{IsAccepted}
use Rattle.proof_check.specs.Trimming.{trimmed}

-- clauses with an accepted derivation have no model
abbrev pub RefutedHaveNoModel : Type 0
RefutedHaveNoModel = (vars : ℕ) (clauses : List (List Lit)) (items : List Item) (values : List Bool)
    → IsAccepted vars clauses items → IsModel vars clauses values → ⊥

-- what is left of an accepted derivation is accepted
abbrev pub TrimmedAreAccepted : Type 0
TrimmedAreAccepted = (vars : ℕ) (clauses : List (List Lit)) (items : List Item)
    → IsAccepted vars clauses items → IsAccepted vars clauses (trimmed (length clauses) items)

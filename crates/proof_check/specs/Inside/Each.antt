-- What is so of each live clause.
use Rattle.std.specs.Prelude.{ℕ, None, IfSome, List, slice_index_or}
use Rattle.cnf.specs.declared.lit.Lit.{Lit}
use Rattle.cnf.specs.Clauses.{IsInRange}
use Rattle.proof_check.specs.Derivations.{Live}

pub record Each (P : List Lit → Type 0) (live : Live) : Type 0 where
  pub at : (place : ℕ) → IfSome (slice_index_or live place None) P

-- no variable of a live clause is out of range
abbrev pub LiveInRange : ℕ → Live → Type 0
LiveInRange vars live = Each (IsInRange vars) live

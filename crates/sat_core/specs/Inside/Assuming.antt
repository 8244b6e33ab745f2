-- Clauses that are added for one search.
use Rattle.std.specs.Prelude.{◌≡◌, List, ◌++◌}
use Rattle.cnf.specs.declared.lit.Lit.{Lit}
use Rattle.cnf.specs.Clauses.{Formula}

-- clauses were added at the end
pub record Extends (old new : Formula) : Type 0 where
  pub more : List (List Lit)
  pub whole : new ≡ record { vars = old.vars; clauses = old.clauses ++ more }

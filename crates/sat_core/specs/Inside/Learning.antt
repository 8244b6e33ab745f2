-- What is known of learned clauses.
use Rattle.std.specs.Prelude.{ℕ, ◌≤◌, List, length, take}
use Rattle.cnf.specs.declared.lit.Lit.{Lit}
use Rattle.cnf.specs.Clauses.{Follows, IsInRange}
use Rattle.sat_core.specs.declared.store.Learned.{Learned}

-- a clause follows from so many of the first given ones, which are there
pub record FollowsFirst (vars : ℕ) (given : List (List Lit)) (needs : ℕ) (lits : List Lit) : Type 0 where
  pub in_range : IsInRange vars lits
  pub there : needs ≤ length given
  pub follows : Follows vars (take needs given) lits

abbrev pub IsLearned : ℕ → List (List Lit) → Learned → Type 0
IsLearned vars given learned = FollowsFirst vars given learned.needs learned.clause

use Rattle.std.proofs.Common.{◌≡◌, take, true}
use Rattle.cnf.specs.Clauses.{all_hold}
use Rattle.sat_core.proofs.split.first_failing.Given as goal

abbrev pub invariant-loop-place : goal.invariant-loop-place
invariant-loop-place l = all_hold l.values (take l.place l.cnf.clauses) ≡ true

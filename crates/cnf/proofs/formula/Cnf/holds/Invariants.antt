use Rattle.std.proofs.Common.{◌≡◌, take, true}
use Rattle.cnf.specs.Clauses.{all_hold}
use Rattle.cnf.proofs.formula.Cnf.holds.Given as goal

abbrev pub invariant-loop-clause : goal.invariant-loop-clause
invariant-loop-clause l = all_hold l.values (take l.clause-index l.clause-items) ≡ true

use Rattle.std.proofs.Common.{◌≡◌, length}
use Rattle.sat_core.proofs.Learning.{Refuting}
use Rattle.sat_core.proofs.store.needed.Given as goal

abbrev pub invariant-loop-hint : goal.invariant-loop-hint
invariant-loop-hint l = record {
  len : length l.table ≡ length l.initial.table;
  refuting : Refuting l.cnf.vars l.cnf.clauses l.needs l.lits l.table;
}

use Rattle.std.proofs.Common.{◌<◌, ◌≤◌, length}
use Rattle.solver_run.proofs.gates.make.Given as goal

abbrev pub invariant-loop : goal.invariant-loop
invariant-loop l = record {
  before : l.before < length l.circuit;
  last : l.last < length l.circuit;
  longer : length l.fn.circuit ≤ length l.circuit;
}

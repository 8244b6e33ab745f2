use Rattle.std.proofs.Common.{◌≡◌, ◌≤◌, ◌+◌, ◌++◌, drop}
use Rattle.circuit.specs.Clauses.{variables, variables_from}
use Rattle.circuit.proofs.encoding.variables.Given as goal

abbrev pub invariant-loop-gate : goal.invariant-loop-gate
invariant-loop-gate l = record {
  all : l.all.items ++ variables_from l.next (drop l.gate-index l.gates) ≡ variables l.gates;
  few : l.next ≤ l.inputs + l.gate-index;
}

use Rattle.circuit.proofs.Depends.{IsClosedFrom}
use Rattle.circuit.proofs.support.cone.Given as goal

abbrev pub invariant-loop-place : goal.invariant-loop-place
invariant-loop-place l = IsClosedFrom l.gates l.fn.root l.table l.place l.marked.items

use Rattle.std.proofs.Common.{◌≡◌, take}
use Rattle.circuit.specs.Support.{with_marks}
use Rattle.circuit.proofs.support.mark_all.Given as goal

abbrev pub invariant-loop-node : goal.invariant-loop-node
invariant-loop-node l = l.marked ≡ with_marks l.fn.marked (take l.node-index l.nodes)

use Rattle.std.proofs.Common.{◌≤◌, drop, length}
use Rattle.frame.specs.Meaning.{Adds, permits}
use Rattle.frame.proofs.decision.permitted.Given as goal

-- the node is what the entries that are left behind say
abbrev pub invariant-loop-left : goal.invariant-loop-left
invariant-loop-left l = record {
  left : l.left ≤ length l.entries;
  adds : Adds l.fn.circuit l.circuit l.node (permits (drop l.left l.entries));
}

abbrev pub decreases-loop-left : goal.decreases-loop-left
decreases-loop-left l = l.left

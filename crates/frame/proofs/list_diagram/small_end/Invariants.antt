use Rattle.std.proofs.Common.{◌≤◌, length, drop}
use Rattle.frame.specs.PacketDiagrams.{IsSmallIn}
use Rattle.frame.proofs.SmallEnds.{AreSmallFrom}
use Rattle.frame.proofs.list_diagram.small_end.Given as goal

-- the diagram is that of the end so far, and all ends of it are small
abbrev pub invariant-loop-end : goal.invariant-loop-end
invariant-loop-end l = record {
  within : l.end.from ≤ length l.entries;
  diagram : IsSmallIn l.most l.end.table (drop l.end.from l.entries) l.end.root;
  all : AreSmallFrom l.most l.entries l.end.from;
}

abbrev pub decreases-loop-end : goal.decreases-loop-end
decreases-loop-end l = l.end.from

use Rattle.std.proofs.Common.{◌≤◌, ◌-◌}
use Rattle.decision_diagram.specs.Inside.Meeting.{AreGoneDown}
use Rattle.decision_diagram.proofs.diagrams.Diagrams.meet_seldom.Given as goal

-- what is behind the pairs so far is among the pairs
abbrev pub invariant-loop-next : goal.invariant-loop-next
invariant-loop-next l = record {
  down : AreGoneDown l.self l.fn.a l.fn.b l.next l.pairs.keys;
  few : l.next ≤ l.most;
}

abbrev pub decreases-loop-next : goal.decreases-loop-next
decreases-loop-next l = l.most - l.next

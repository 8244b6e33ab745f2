use Rattle.std.proofs.Common.{◌+◌, ◌-◌, ◌*◌, ◌≤◌, length}
use Rattle.decision_diagram.specs.Table.{Extends}
use Rattle.decision_diagram.specs.Inside.Numbers.{AreBounded}
use Rattle.decision_diagram.proofs.diagrams.Diagrams.range.Given as goal

-- the lowest bits so far are compared with both ends
abbrev pub invariant-loop-place : goal.invariant-loop-place
invariant-loop-place l = record {
  bounded : AreBounded l.initial.self l.self (l.first + (l.width - l.place)) l.place l.low l.high l.initial.bounded.both l.bounded;
  few : length l.self.nodes ≤ length l.initial.self.nodes + 3 * l.place;
  older : Extends l.initial.self l.self;
}

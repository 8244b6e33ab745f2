use Rattle.std.proofs.Common.{◌+◌, ◌-◌, ◌≤◌, length}
use Rattle.decision_diagram.specs.Table.{Extends}
use Rattle.decision_diagram.specs.Inside.Numbers.{IsTested, agree_from}
use Rattle.decision_diagram.proofs.diagrams.Diagrams.masked.Given as goal

-- the lowest bits so far are compared
abbrev pub invariant-loop-place : goal.invariant-loop-place
invariant-loop-place l = record {
  tested : IsTested l.initial.self l.self (l.first + (l.width - l.place)) (λ bits. agree_from bits (l.first + (l.width - l.place)) l.place l.value l.wildcard) l.initial.diagram l.diagram;
  few : length l.self.nodes ≤ length l.initial.self.nodes + l.place;
  older : Extends l.initial.self l.self;
}

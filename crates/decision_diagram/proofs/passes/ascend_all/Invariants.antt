use Rattle.std.proofs.Common.{◌≡◌, ◌≤◌, ◌+◌, ◌-◌, [], length, drop, reverse}
use Rattle.circuit.specs.Value.{AreNodes, Extends, Grows}
use Rattle.decision_diagram.specs.Guarded.{ascend, ascent}
use Rattle.decision_diagram.specs.Inside.Passes.{ArePairs}
use Rattle.decision_diagram.proofs.passes.ascend_all.Given as goal

-- the branches from this place on are left
abbrev pub invariant-loop-place : goal.invariant-loop-place
invariant-loop-place l = record {
  inside : l.place ≤ length l.table.nodes;
  made : ascend (ascent l.circuit l.accepted.items) (drop l.place l.table.nodes) (drop (l.place - 2) (reverse l.edges))
      ≡ ascend (ascent l.fn.circuit []) (drop 2 l.table.nodes) (reverse l.edges);
  count : length l.accepted.items + 2 ≡ l.place;
  nodes : AreNodes l.circuit l.accepted.items;
  pairs : ArePairs l.circuit l.edges;
  grown : Grows l.fn.circuit l.circuit;
  older : Extends l.fn.circuit l.circuit;
}

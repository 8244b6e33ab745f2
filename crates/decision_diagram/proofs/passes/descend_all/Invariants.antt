use Rattle.std.proofs.Common.{◌≡◌, ◌≤◌, ◌+◌, ◌-◌, [], length, drop, replicate, reverse}
use Rattle.circuit.specs.Value.{AreNodes, Extends, Grows}
use Rattle.decision_diagram.specs.Guarded.{descend, descent, with_edge}
use Rattle.decision_diagram.specs.Inside.Passes.{AreEdges, ArePairs}
use Rattle.decision_diagram.proofs.passes.descend_all.Given as goal

-- the branches from this place on are done
abbrev pub invariant-loop-place : goal.invariant-loop-place
invariant-loop-place l = record {
  behind : 2 ≤ l.place;
  inside : l.place ≤ length l.table.nodes;
  made : descent l.circuit l.into (reverse l.edges.items)
      ≡ descend l.bits l.place (descent l.fn.circuit (with_edge (replicate (length l.table.nodes - 2) []) l.fn.root l.fn.start) []) (drop l.place l.table.nodes);
  into : length l.into + 2 ≡ length l.table.nodes;
  nodes : AreEdges l.circuit l.into;
  count : length l.edges.items + l.place ≡ length l.table.nodes;
  pairs : ArePairs l.circuit l.edges.items;
  bits : AreNodes l.circuit l.bits;
  grown : Grows l.fn.circuit l.circuit;
  older : Extends l.fn.circuit l.circuit;
}

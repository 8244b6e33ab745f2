use Rattle.std.proofs.Common.{◌≡◌, ◌++◌, drop, map}
use Rattle.circuit.specs.Append.{number_at}
use Rattle.circuit.proofs.append.moved_nodes.Given as goal

abbrev pub invariant-loop-place : goal.invariant-loop-place
invariant-loop-place l =
    l.moved.items ++ map (number_at l.nodes) (drop l.place-index l.places) ≡ map (number_at l.nodes) l.places

use Rattle.std.proofs.Common.{◌≡◌, ◌++◌, drop, map}
use Rattle.circuit.specs.Append.{number_at}
use Rattle.circuit.proofs.encoding.variables_at.Given as goal

abbrev pub invariant-loop-place : goal.invariant-loop-place
invariant-loop-place l =
    l.moved.items ++ map (number_at l.variables) (drop l.place-index l.places) ≡ map (number_at l.variables) l.places

use Rattle.std.proofs.Common.{◌≡◌, drop, false, Some}
use Rattle.circuit.specs.Settled.{settled_at, settled_and, settled_all}
use Rattle.circuit.proofs.settled.settle_all.Given as goal

abbrev pub invariant-loop-part : goal.invariant-loop-part
invariant-loop-part l =
    (settled_all (settled_at l.table) l.parts ≡ settled_and l.all (settled_all (settled_at l.table) (drop l.part-index l.parts))) × (l.all ≡ Some false → ⊥)

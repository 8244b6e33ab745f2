use Rattle.std.proofs.Common.{◌≡◌, drop, true, Some}
use Rattle.circuit.specs.Settled.{settled_at, settled_or, settled_any}
use Rattle.circuit.proofs.settled.settle_any.Given as goal

abbrev pub invariant-loop-part : goal.invariant-loop-part
invariant-loop-part l =
    (settled_any (settled_at l.table) l.parts ≡ settled_or l.any (settled_any (settled_at l.table) (drop l.part-index l.parts))) × (l.any ≡ Some true → ⊥)

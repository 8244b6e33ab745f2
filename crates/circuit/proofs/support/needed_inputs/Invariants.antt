use Rattle.circuit.proofs.Depends.{AreInputsKnown}
use Rattle.circuit.proofs.support.needed_inputs.Given as goal

abbrev pub invariant-loop-place : goal.invariant-loop-place
invariant-loop-place l = AreInputsKnown l.gates l.marked l.place l.needed.items

use Rattle.std.proofs.Common.{◌≡◌, length}
use Rattle.circuit.specs.Value.{AreNodes}
use Rattle.scenarios_search.proofs.circuits.inputs.Given as goal

abbrev pub invariant-loop : goal.invariant-loop
invariant-loop l = record { nodes : AreNodes l.circuit l.bits.items; count : length l.bits.items ≡ l.counter }

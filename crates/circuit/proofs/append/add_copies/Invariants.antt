use Rattle.std.proofs.Common.{◌≡◌, take}
use Rattle.circuit.specs.Append.{with_copies}
use Rattle.circuit.specs.Sharing.{made_all}
use Rattle.circuit.specs.Value.{Grows}
use Rattle.circuit.proofs.append.add_copies.Given as goal

-- the gates so far are copied
abbrev pub invariant-loop-gate : goal.invariant-loop-gate
invariant-loop-gate l = record {
  made : made_all l.circuit l.nodes.items ≡ with_copies l.fn.circuit (take l.gate-index l.gates) l.inputs;
  grown : Grows l.fn.circuit l.circuit;
}

use Rattle.std.proofs.Common.{◌≡◌, drop}
use Rattle.circuit.specs.Gates.{with_pairs}
use Rattle.circuit.specs.Value.{AreNodes, Grows}
use Rattle.circuit.proofs.Pairs.{with_front}
use Rattle.circuit.proofs.equal.add_pairs.Given as goal

-- the pairs that are left make of the circuit, behind the tests so far, what all of them make of it at the beginning
abbrev pub invariant-loop-index : goal.invariant-loop-index
invariant-loop-index l = record {
  rest : with_front l.tests.items (with_pairs l.circuit (drop l.index l.a) (drop l.index l.b)) ≡ with_pairs l.fn.circuit l.a l.b;
  within : AreNodes l.circuit l.tests.items;
  grown : Grows l.fn.circuit l.circuit;
}

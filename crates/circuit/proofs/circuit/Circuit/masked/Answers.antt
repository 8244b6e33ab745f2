use Rattle.circuit.specs.Gates.{with_masked}
use Rattle.circuit.proofs.Tests.{test_answered}
use Rattle.circuit.proofs.Wildcard.{masked_test}
use Rattle.circuit.proofs.circuit.Circuit.masked.Goals as goal

pub returns-in-Ok : goal.returns-in-Ok
returns-in-Ok c =
    test_answered c.args.self.now c.add_masked.new.circuit c.in-Ok.node (with_masked c.args.self.now c.args.bits.now c.args.value c.args.wildcard) 3 _ c.in-Ok.ensures.made
    (masked_test c.args.self.now c.args.bits.now c.args.value c.args.wildcard c.nodes-before.ensures.circuit c.requires.nodes)

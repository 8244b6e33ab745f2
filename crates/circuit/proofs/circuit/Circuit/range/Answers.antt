use Rattle.std.proofs.Common.{◌+◌, ◌*◌, length}
use Rattle.circuit.specs.Gates.{with_range}
use Rattle.circuit.proofs.Comparison.{range_test}
use Rattle.circuit.proofs.Tests.{test_answered}
use Rattle.circuit.proofs.circuit.Circuit.range.Goals as goal

pub returns-in-Ok : goal.returns-in-Ok
returns-in-Ok c =
    test_answered c.args.self.now c.add_range.new.circuit c.in-Ok.node (with_range c.args.self.now c.args.bits.now c.args.lo c.args.hi) (2 * length c.args.bits.now + 6) _ c.in-Ok.ensures.made
    (range_test c.args.self.now c.args.bits.now c.args.lo c.args.hi c.nodes-before.ensures.circuit c.requires.nodes)

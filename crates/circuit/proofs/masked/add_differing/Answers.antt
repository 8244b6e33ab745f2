use Rattle.std.proofs.Common.{◌∙◌}
use Rattle.circuit.proofs.Wildcard.{fixed_within}
use Rattle.circuit.proofs.masked.add_differing.Goals as goal

pub or-requires : goal.or-requires
or-requires c = rw (c.as_slice.ensures.value ∙ c.in_ok-zeros.ensures) (fixed_within c.args.circuit.now c.args.bits.now c.args.value c.args.wildcard 0 c.requires.nodes)

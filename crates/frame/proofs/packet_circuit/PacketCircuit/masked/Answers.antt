use Rattle.std.proofs.Common.{◌∙◌, ap}
use Rattle.bit_patterns.specs.Patterns.{agrees}
use Rattle.frame.specs.Bits.{field_bits}
use Rattle.frame.proofs.Nodes.{HasBits-extends, field_adds}
use Rattle.frame.proofs.packet_circuit.PacketCircuit.masked.Goals as goal

pub invariant_of-self : goal.invariant_of-self
invariant_of-self c = HasBits-extends _ _ _ c.self.invariant c.masked.ensures.grown

pub returns : goal.returns
returns c =
    rw (← c.self.view_is, ← c.from.ensures, ← c.from-2.ensures)
    (field_adds c.masked.result _ _ c.self.inside.bits.items _ c.args.field (λ n. agrees n c.from.result c.from-2.result) c.self.invariant (c.field_bits-bits.ensures ∙ ap (field_bits c.args.field) c.as_slice.ensures.value) c.masked.ensures.older
    c.masked.ensures.within c.masked.ensures.value)

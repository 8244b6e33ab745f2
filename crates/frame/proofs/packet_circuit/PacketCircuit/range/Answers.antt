use Rattle.std.proofs.Common.{◌∙◌, ◌&&◌, ap, nat_le}
use Rattle.frame.specs.Bits.{field_bits}
use Rattle.frame.proofs.Nodes.{HasBits-extends, field_adds}
use Rattle.frame.proofs.packet_circuit.PacketCircuit.range.Goals as goal

pub invariant_of-self : goal.invariant_of-self
invariant_of-self c = HasBits-extends _ _ _ c.self.invariant c.range.ensures.grown

pub returns : goal.returns
returns c =
    rw (← c.self.view_is, ← c.from.ensures, ← c.from-2.ensures)
    (field_adds c.range.result _ _ c.self.inside.bits.items _ c.args.field (λ n. nat_le c.from.result n && nat_le n c.from-2.result) c.self.invariant (c.field_bits-bits.ensures ∙ ap (field_bits c.args.field) c.as_slice.ensures.value) c.range.ensures.older
    c.range.ensures.within c.range.ensures.value)

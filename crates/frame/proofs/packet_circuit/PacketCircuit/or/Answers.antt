use Rattle.frame.proofs.Nodes.{HasBits-extends}
use Rattle.frame.proofs.packet_circuit.PacketCircuit.or.Goals as goal

pub invariant_of-self : goal.invariant_of-self
invariant_of-self c = HasBits-extends _ _ _ c.self.invariant c.or.ensures.grown

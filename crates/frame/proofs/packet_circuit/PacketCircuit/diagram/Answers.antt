use Rattle.frame.proofs.Nodes.{HasBits-extends}
use Rattle.frame.proofs.packet_circuit.PacketCircuit.diagram.Goals as goal

pub invariant_of-self : goal.invariant_of-self
invariant_of-self c = HasBits-extends _ _ _ c.self.invariant c.gates.ensures.grown

pub invariant_of-self-2 : goal.invariant_of-self-2
invariant_of-self-2 c = HasBits-extends _ _ _ c.self.invariant c.gates.ensures.grown

use Rattle.std.proofs.Common.{◌∙◌, length, ap}
use Rattle.circuit.specs.Sharing.{MadeAll}
use Rattle.circuit.proofs.Copies.{are_copies, roots_within}
use Rattle.circuit.proofs.append.add_circuit.Goals as goal

pub moved_nodes-requires : goal.moved_nodes-requires
moved_nodes-requires c =
    let copies = are_copies c.args.circuit.now c.args.gates.now c.args.inputs.now c.requires.circuit c.requires.other c.requires.inputs c.requires.count in
    roots_within c.args.gates.now c.args.roots.now (length c.as_slice.result.now) c.requires.roots
    (ap length (c.as_slice.ensures.value ∙ ap (λ (all : MadeAll). all.nodes) c.in_ok-nodes.ensures.made) ∙ copies.count)

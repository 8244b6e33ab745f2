use Rattle.decision_diagram.specs.Table.{diagram}
use Rattle.decision_diagram.proofs.Guards.{made_alone}
use Rattle.decision_diagram.proofs.guarded.gates.Goals as goal

pub returns : goal.returns
returns c =
    let alone = c.in_ok-table.ensures in
    let t =
    made_alone c.args.circuit.now c.gates_alone.new.circuit c.args.bits.now c.in_ok-table.table c.args.diagrams.now.bits c.in_ok-table.place c.in_ok-node.node (diagram c.args.diagrams.now c.args.root)
    c.nodes-nodes.ensures.circuit c.requires.bits c.requires.count alone.nodes alone.place alone.within alone.same alone.table c.in_ok-node.ensures.made in
    record { made = t.0; within = t.1; value = t.2; grown = c.gates_alone.ensures.grown; older = c.gates_alone.ensures.older }

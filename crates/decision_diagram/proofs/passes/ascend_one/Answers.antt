use Rattle.std.proofs.Common.{List, ℕ, subst, ◌≡◌, ◌++◌, ◌∷◌, []}
use Rattle.decision_diagram.specs.declared.node.Node.TheVariants as node
use Rattle.decision_diagram.specs.Guarded.{ascent, ascend_at}
use Rattle.decision_diagram.proofs.Walk.{one_up, nodes_more}
use Rattle.decision_diagram.proofs.passes.ascend_one.Goals as goal

pub returns-in_ok-push-clause-made : goal.returns-in_ok-push-clause-made
returns-in_ok-push-clause-made c = λ n is.
    let branch = node.Branch c.in-Branch.field-0 c.in-Branch.low c.in-Branch.high in
    let P : List ℕ → Type 0 = λ accepted. ascent c.accept.new.circuit (accepted ++ c.in_ok-node.node ∷ []) ≡ ascend_at (ascent c.args.circuit.now accepted) branch c.args.taken in
    one_up c.args.table.now.nodes c.args.place c.args.circuit.now c.accept.new.circuit c.args.accepted.now.items c.push.new.self.items c.in_ok-node.node c.args.taken branch n
    c.in-Branch.ensures.node is c.in_ok-push.ensures.items (subst P c.as_slice.ensures.value (c.in_ok-node.ensures.made c.in-Branch.field-0))

pub returns-in_ok-push-clause-nodes : goal.returns-in_ok-push-clause-nodes
returns-in_ok-push-clause-nodes c =
    nodes_more c.args.circuit.now c.accept.new.circuit c.args.accepted.now.items c.push.new.self.items c.in_ok-node.node c.accept.ensures.older c.requires.nodes c.in_ok-node.ensures.within c.in_ok-push.ensures.items

use Rattle.std.proofs.Common.{◌∙◌}
use Rattle.std.proofs.lemmas.Grind.{get_or_default_zero}
use Rattle.decision_diagram.specs.declared.node.Node.TheVariants as node
use Rattle.decision_diagram.proofs.Branches.{branch_at}
use Rattle.decision_diagram.proofs.Walk.{one_down, pairs_more}
use Rattle.decision_diagram.proofs.passes.descend_one.Goals as goal

pub returns-in_ok-push-clause-made : goal.returns-in_ok-push-clause-made
returns-in_ok-push-clause-made c = λ n is.
    let branch = node.Branch c.in-Branch.bit c.in-Branch.low c.in-Branch.high in
    let within = (branch_at c.args.table.now.bits _ c.args.table.now.nodes c.args.place branch c.in-Branch.ensures.table c.requires.count c.requires.branch c.requires.within c.in-Branch.ensures.node).bit_within in
    one_down c.args.table.now.nodes c.args.bits.now c.args.place c.args.circuit.now c.take.new.circuit c.args.into.now c.take.new.into c.args.edges.now.items c.push.new.self.items c.in_ok-taken.taken branch n
    c.in-Branch.ensures.node is c.in_ok-push.ensures.items (c.in_ok-taken.ensures.made c.in-Branch.bit c.args.bits.now _ (c.index-bits-bit.is ∙ get_or_default_zero c.args.bits.now c.in-Branch.bit c.index-bits-bit.result within))

pub returns-in_ok-push-clause-pairs : goal.returns-in_ok-push-clause-pairs
returns-in_ok-push-clause-pairs c =
    pairs_more c.args.circuit.now c.take.new.circuit c.args.edges.now.items c.push.new.self.items c.in_ok-taken.taken c.take.ensures.older c.requires.pairs c.in_ok-taken.ensures.pair c.in_ok-push.ensures.items

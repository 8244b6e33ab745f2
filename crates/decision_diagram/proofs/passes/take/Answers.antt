use Rattle.std.proofs.Common.{arith}
use Rattle.decision_diagram.proofs.Walk.{extends_four, two_added}
use Rattle.decision_diagram.proofs.passes.take.Goals as goal

pub returns-clause-nodes : goal.returns-clause-nodes
returns-clause-nodes c =
    let longer = extends_four c.args.circuit.now c.join.new.circuit c.not.new.self c.and.new.self c.and-2.new.self c.join.ensures.older c.not.ensures.older c.and.ensures.older c.and-2.ensures.older in
    two_added c.args.circuit.now c.and-2.new.self c.args.into.now c.add.new.self c.add-2.new.self c.args.low c.args.high c.in_ok-if_false.if_false c.in_ok-if_true.if_true longer c.requires.nodes c.in_ok-add.ensures c.in_ok-add-2.ensures
    (omega (arith, c.in_ok-if_false.ensures.within, (c.and-2.ensures.older).longer)) c.in_ok-if_true.ensures.within

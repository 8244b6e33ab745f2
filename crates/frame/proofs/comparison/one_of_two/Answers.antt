use Rattle.std.proofs.Common.{◌∙◌, arith}
use Rattle.std.proofs.lemmas.List.{get_or_default}
use Rattle.frame.proofs.Comparisons.{one_of_two_is}
use Rattle.frame.proofs.Nodes.{HasInputs-extends}
use Rattle.frame.proofs.comparison.one_of_two.Goals as goal

pub returns-clause-inputs : goal.returns-clause-inputs
returns-clause-inputs c =
    HasInputs-extends 128 _ _ _ (HasInputs-extends 128 _ _ _ (HasInputs-extends 128 _ _ _ (HasInputs-extends 128 _ _ _ (HasInputs-extends 128 _ _ _ c.requires.inputs c.gates.ensures.grown) c.gates-2.ensures.grown) c.ite.ensures.grown) c.asked_of.ensures.grown) c.and.ensures.grown

pub returns-clause-chosen : goal.returns-clause-chosen
returns-clause-chosen c = λ values long.
    let nodes = c.args.inputs.now in
    let many = c.requires.inputs.count_is in
    let n0 = c.index-inputs-0.is ∙ get_or_default nodes 0 _ 0 (omega (arith, many)) in
    let m0 = c.index-inputs-0-2.is ∙ get_or_default nodes 0 _ 0 (omega (arith, many)) in
    let m1 = c.index-inputs-1.is ∙ get_or_default nodes 1 _ 0 (omega (arith, many)) in
    one_of_two_is c.args.found.now.table c.args.circuit.now c.gates.new.circuit c.gates-2.new.circuit c.ite.new.self c.asked_of.new.circuit nodes
    c.in_ok-by_first.by_first c.in_ok-by_second.by_second c.in_ok-chosen.chosen c.in_ok-as_asked.as_asked c.args.found.now.only_first c.args.found.now.only_second c.args.asked _ values
    c.requires.inputs c.gates.ensures.grown c.gates-2.ensures.grown c.ite.ensures.grown c.asked_of.ensures.grown long
    c.in_ok-by_first.ensures.within (rw (c.table.ensures.table, c.behind_two-bits.ensures) at (c.in_ok-by_first.ensures.value values))
    c.in_ok-by_second.ensures.within (rw (c.table-2.ensures.table, c.behind_two-bits.ensures) at (c.in_ok-by_second.ensures.value values))
    c.in_ok-chosen.ensures.within (rw n0 at (c.in_ok-chosen.ensures.value values))
    (rw (m0, m1) at (c.in_ok-as_asked.ensures.value values))
    (c.in_ok-root.ensures.value values)

use Rattle.std.proofs.Common.{◌≡◌, ◌∙◌, length, arith}
use Rattle.std.proofs.lemmas.List.{get_or_default}
use Rattle.frame.proofs.Comparisons.{all_moved, gates_show}
use Rattle.frame.proofs.Nodes.{HasInputs-extends}
use Rattle.frame.proofs.comparison.compared.Goals as goal

pub returns-clause-inputs : goal.returns-clause-inputs
returns-clause-inputs c =
    HasInputs-extends 128 _ _ _ (HasInputs-extends 128 _ _ _ (HasInputs-extends 128 _ _ _ (HasInputs-extends 128 _ _ _ (HasInputs-extends 128 _ _ _ c.requires.inputs c.append.ensures.grown) c.asked_of.ensures.grown) c.same.ensures.grown) c.same-2.ensures.grown) c.and.ensures.grown

pub returns-clause-shows : goal.returns-clause-shows
returns-clause-shows c = λ values long.
    let nodes = c.args.inputs.now in
    let permitted = c.in_ok-permitted.permitted.items in
    let some : length permitted ≡ 2 = all_moved _ _ permitted c.args.verdicts.now (c.in_ok-permitted.ensures.value values) ∙ c.requires.two in
    let n0 = c.index-inputs-0.is ∙ get_or_default nodes 0 _ 0 (omega (arith, c.requires.inputs.count_is)) in
    let n1 = c.index-inputs-1.is ∙ get_or_default nodes 1 _ 0 (omega (arith, c.requires.inputs.count_is)) in
    let m0 = c.index-inputs-0-2.is ∙ get_or_default nodes 0 _ 0 (omega (arith, c.requires.inputs.count_is)) in
    let m1 = c.index-inputs-1-2.is ∙ get_or_default nodes 1 _ 0 (omega (arith, c.requires.inputs.count_is)) in
    gates_show c.args.lists.now c.args.circuit.now c.append.new.self c.asked_of.new.circuit c.same.new.circuit c.same-2.new.circuit nodes c.args.verdicts.now permitted
    c.in_ok-as_asked.as_asked c.in_ok-first.first c.in_ok-second.second c.args.asked _ values c.requires.inputs c.append.ensures.grown c.asked_of.ensures.grown c.same.ensures.grown c.same-2.ensures.grown long c.requires.two
    c.in_ok-permitted.ensures.within (rw (c.circuit.ensures.circuit, c.behind_two-bits.ensures) at (c.in_ok-permitted.ensures.value values))
    c.in_ok-as_asked.ensures.within (rw (n0, n1) at (c.in_ok-as_asked.ensures.value values))
    c.in_ok-first.ensures.within (rw (m0, c.index.ensures ∙ get_or_default permitted 0 _ 0 (omega (arith, some))) at (c.in_ok-first.ensures.value values))
    (rw (m1, c.index-2.ensures ∙ get_or_default permitted 1 _ 0 (omega (arith, some))) at (c.in_ok-second.ensures.value values))
    (c.in_ok-root.ensures.value values)

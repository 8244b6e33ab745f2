use Rattle.std.proofs.Common.{◌≡◌, ◌<◌, ◌-◌, ℕ, Some, length, get_or, ap, subst, ◌∙◌, arith}
use Rattle.std.specs.List.{slice_get}
use Rattle.circuit.proofs.Extend.{Extends-trans, Grows-trans}
use Rattle.decision_diagram.specs.declared.node.Node.TheVariants as node
use Rattle.decision_diagram.specs.Guarded.{Ascent, ascent, ascend_at}
use Rattle.decision_diagram.proofs.Passing.{pairs_later}
use Rattle.decision_diagram.proofs.Walk.{more_up}
use Rattle.decision_diagram.proofs.passes.ascend_all.Goals as goal

pub loop-place-preserved : goal.loop-place-preserved
loop-place-preserved c =
    let so_far = c.loop-place.invariant in
    let step = c.in_ok-ascend_one.ensures in
    let nodes = c.args.table.now.nodes in
    let all : c.node_count-count.result ≡ length nodes = c.node_count-count.ensures.count in
    let place : ℕ = c.loop-place.place in
    let within : place < length nodes = omega (arith, c.loop-place-test.true, all) in
    let before : Ascent = ascent c.loop-place.circuit c.loop-place.accepted.items in
    let after : Ascent = ascent c.ascend_one.new.circuit c.ascend_one.new.accepted.items in
    let taken = c.index-edges-count.is ∙ ap (λ n. get_or c.args.edges.now (n - 1 - place) c.index-edges-count.result) all in
    let P : ℕ → Type 0 = λ k. (n : node.the_data) → slice_get nodes k ≡ Some n → after ≡ ascend_at before n c.index-edges-count.result in
    let made = subst P c.at.ensures step.made in
    record {
      inside = omega (arith, within);
      made = more_up nodes c.args.edges.now place _ _ c.index-edges-count.result c.loop-place.auto.place within c.requires.count taken made ∙ so_far.made;
      count = omega (arith, step.count, so_far.count);
      nodes = step.nodes;
      pairs = pairs_later c.loop-place.circuit c.ascend_one.new.circuit c.args.edges.now c.ascend_one.ensures.older so_far.pairs;
      grown = Grows-trans c.args.circuit.now c.loop-place.circuit c.ascend_one.new.circuit so_far.grown c.ascend_one.ensures.grown;
      older = Extends-trans c.args.circuit.now c.loop-place.circuit c.ascend_one.new.circuit so_far.older c.ascend_one.ensures.older;
    }

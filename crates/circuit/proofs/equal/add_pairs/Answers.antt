use Rattle.std.proofs.Common.{◌∙◌, ap, drop, ◌+◌}
use Rattle.circuit.specs.Gates.{with_pairs}
use Rattle.circuit.proofs.Below.{below_push}
use Rattle.circuit.proofs.Extend.{Grows-trans}
use Rattle.circuit.proofs.Pairs.{with_front, pairs_more}
use Rattle.circuit.proofs.Tests.{nodes_stay}
use Rattle.circuit.proofs.equal.add_pairs.Goals as goal

pub loop-index-preserved : goal.loop-index-preserved
loop-index-preserved c =
    let kept = c.loop-index.invariant in
    let items = c.in_ok-push.ensures.items in
    let i = c.loop-index.index in
    let a = c.args.a.now in
    let b = c.args.b.now in
    record {
      rest =
          ap (λ tests. with_front tests (with_pairs c.add_pair.new.circuit (drop (i + 1) a) (drop (i + 1) b))) items
          ∙ pairs_more c.loop-index.circuit c.add_pair.new.circuit c.loop-index.tests.items a b i c.index-a-index.result c.index-b-index.result c.in_ok-test.test c.loop-index-test.true c.requires.same c.index-a-index.is c.index-b-index.is c.in_ok-test.ensures.made
          ∙ kept.rest;
      within = rw items (below_push _ c.loop-index.tests.items c.in_ok-test.test c.in_ok-test.ensures.within (nodes_stay _ _ c.loop-index.tests.items c.in_ok-test.ensures.grown kept.within));
      grown = Grows-trans _ _ _ kept.grown c.in_ok-test.ensures.grown;
    }

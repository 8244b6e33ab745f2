use Rattle.std.proofs.Common.{◌≡◌, ◌&&◌, Bool, true, false, refl, sym, ap, ◌∙◌, arith}
use Rattle.std.specs.List.{list_all}
use Rattle.std.proofs.lemmas.List.{take_all}
use Rattle.std.proofs.lemmas.List.Folds.{list_all_more}
use Rattle.circuit.proofs.Extend.{Extends-trans}
use Rattle.frame.specs.Question.{passes}
use Rattle.frame.specs.Scenario.{request_of}
use Rattle.frame.proofs.Nodes.{Means-as, Means-extends, means_both}
use Rattle.frame.proofs.question.tested.Goals as goal

and_behind : (a b c : Bool) → ((a && b) && (c && true)) ≡ (a && (b && c))
and_behind true true true = refl
and_behind true true false = refl
and_behind true false c = refl
and_behind false b c = refl

pub loop-test-preserved : goal.loop-test-preserved
loop-test-preserved c =
    let kept = c.loop-test.invariant in
    let passed = c.in_ok-passed.ensures in
    record {
      within = c.in_ok-node.ensures.node;
      older = Extends-trans _ c.loop-test.circuit _ kept.older (Extends-trans _ _ _ passed.older c.in_ok-node.ensures.older);
      means = λ meaning means.
          Means-as _ _ _ _
          (λ packet. and_behind (meaning packet) _ _ ∙ ap (λ b. meaning packet && b) (sym (list_all_more (passes (request_of packet)) c.args.tests.now c.loop-test.test-index _ c.loop-test-test.true)))
          (means_both c.passed.new.circuit _ _ _ _ _ _ (Means-extends c.loop-test.circuit _ _ _ passed.older (kept.means meaning means)) passed.means c.in_ok-node.ensures.node c.in_ok-node.ensures.value);
    }

pub returns : goal.returns
returns c = λ meaning means.
    let kept = c.loop-test.invariant in
    record {
      older = kept.older;
      means =
          Means-as _ _ _ _
          (λ packet. ap (λ tests. meaning packet && list_all (passes (request_of packet)) tests) (take_all c.loop-test.test-index c.args.tests.now (omega arith)))
          (kept.means meaning means);
    }

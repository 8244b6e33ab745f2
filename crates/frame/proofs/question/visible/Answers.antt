use Rattle.std.proofs.Common.{sym, ap, ◌∙◌}
use Rattle.frame.proofs.ShownTests.{shown_before, shown_new}
use Rattle.frame.proofs.question.visible.Goals as goal
use Rattle.frame.proofs.question.visible.Goals.{then-not-is_shown+in_ok-push, else-not-is_shown}

pub loop-test-preserved : goal.loop-test-preserved
loop-test-preserved c =
    let among = rw c.as_slice.ensures.value at c.is_shown.ensures in
    elim c.if-not-is_shown.branch [
      | then-not-is_shown+in_ok-push w ↦
          ap (λ v. v.items) w.shown-is
          ∙ w.in_ok-push.ensures.items
          ∙ shown_new c.args.tests.now c.loop-test.test-index _ c.loop-test.shown.items c.loop-test-test.true c.loop-test.invariant (sym among ∙ w.if-not-is_shown.true)
      | else-not-is_shown w ↦
          ap (λ v. v.items) w.shown-is
          ∙ shown_before c.args.tests.now c.loop-test.test-index _ c.loop-test.shown.items c.loop-test-test.true c.loop-test.invariant (sym among ∙ w.if-not-is_shown.false)
    ]

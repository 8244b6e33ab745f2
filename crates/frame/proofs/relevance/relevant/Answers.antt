use Rattle.std.proofs.Common.{ap, ◌∙◌}
use Rattle.ios_acl.specs.Decision.{decision}
use Rattle.frame.proofs.MissedEntries.{kept_next, missed_next}
use Rattle.frame.proofs.relevance.relevant.Goals as goal
use Rattle.frame.proofs.relevance.relevant.Goals.{then-not-is_missed+in_ok-push, else-not-is_missed}

pub loop-entry-preserved : goal.loop-entry-preserved
loop-entry-preserved c packet passed =
    let so_far = c.loop-entry.invariant packet passed in
    let inside = c.loop-entry-test.true in
    elim c.if-not-is_missed.branch [
      | then-not-is_missed+in_ok-push w ↦ rw (w.kept-is, w.in_ok-push.ensures.items) (ap (λ entries. decision entries packet) (kept_next c.loop-entry.kept.items c.args.entries.now c.loop-entry.entry-index _ inside) ∙ so_far)
      | else-not-is_missed w ↦ rw w.kept-is (missed_next c.loop-entry.kept.items c.args.entries.now c.loop-entry.entry-index _ packet inside (c.is_missed.ensures w.if-not-is_missed.false packet passed) ∙ so_far)
    ]

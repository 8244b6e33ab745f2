use Rattle.ios_config.proofs.Drafts.{so_far_more, so_far_none, stops_there}
use Rattle.ios_config.proofs.router.draft_of.Goals as goal

pub loop-line-init : goal.loop-line-init
loop-line-init c = so_far_none c.args.known.now c.args.lines.now c.new-draft.result c.new-draft.ensures

pub returns-in-Err-clause-refused : goal.returns-in-Err-clause-refused
returns-in-Err-clause-refused c =
    rw c.located.ensures
    (stops_there c.args.known.now c.args.lines.now c.loop-line.line-index c.loop-line.draft c.line-item.result c.in-Err.fault c.loop-line-test.true c.line-item.is c.loop-line.invariant c.in-Err.ensures.refused)

pub loop-line-preserved : goal.loop-line-preserved
loop-line-preserved c =
    so_far_more c.args.known.now c.args.lines.now c.loop-line.line-index c.loop-line.draft c.take.new.self c.line-item.result c.loop-line-test.true c.line-item.is c.loop-line.invariant c.in_default.ensures.taken

use Rattle.ios_config.proofs.Drafts.{SoFar}
use Rattle.ios_config.proofs.router.draft_of.Given as goal

abbrev pub invariant-loop-line : goal.invariant-loop-line
invariant-loop-line l = SoFar l.known l.lines l.line-index l.draft

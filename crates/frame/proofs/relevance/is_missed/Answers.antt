use Rattle.frame.specs.Question.{passes}
use Rattle.frame.specs.Scenario.{request_of}
use Rattle.frame.proofs.MissedEntries.{passed_at}
use Rattle.frame.proofs.relevance.is_missed.Goals as goal

pub returns-then-misses : goal.returns-then-misses
returns-then-misses c same packet passed =
    c.misses.ensures c.if-misses.true packet (passed_at (passes (request_of packet)) c.args.tests.now c.loop-test.test-index _ c.loop-test-test.true passed)

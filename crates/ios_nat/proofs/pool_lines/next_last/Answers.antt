use Rattle.std.proofs.Common.{arith}
use Rattle.ios_nat.proofs.PoolWords.{early_stop, last_stop}
use Rattle.ios_nat.proofs.pool_lines.next_last.Goals as goal

pub returns-in_default-clause-stop : goal.returns-in_default-clause-stop
returns-in_default-clause-stop c =
    last_stop c.args.first c.args.words.now c.stop_before.result (omega arith) c.stop_before.ensures.left c.stop_before.ensures.due c.in_default.ensures.none

pub returns-then-last-first-clause-stop : goal.returns-then-last-first-clause-stop
returns-then-last-first-clause-stop c =
    early_stop c.args.first c.in-Some.last c.args.words.now c.in-Some.rest.now c.stop_before-then-last-first.result (omega arith) c.in-Some.ensures.found c.if-last-first.true
    c.stop_before-then-last-first.ensures.left c.stop_before-then-last-first.ensures.due

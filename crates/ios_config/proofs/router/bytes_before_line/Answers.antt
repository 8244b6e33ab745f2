use Rattle.std.proofs.Common.{arith}
use Rattle.ios_config.proofs.RawFronts.{passes_none, passes_more, front_passed, one_line_left}
use Rattle.ios_config.proofs.router.bytes_before_line.Goals as goal

pub loop-init : goal.loop-init
loop-init c = passes_none c.args.bytes.now

pub returns-in_default : goal.returns-in_default
returns-in_default c front back whole line some =
    absurd (one_line_left c.args.bytes.now c.loop.rest.now c.loop.counter front back c.loop.invariant c.in_default.ensures.free whole (omega arith) some)

pub loop-preserved : goal.loop-preserved
loop-preserved c = passes_more c.args.bytes.now c.loop.rest.now c.in-Some.field-0-0.now c.in-Some.others.now c.loop.counter c.loop.invariant c.in-Some.ensures.cut

pub returns : goal.returns
returns c front back whole line some =
    front_passed c.args.bytes.now c.loop.rest.now c.loop.counter front back c.loop.invariant whole (omega arith)

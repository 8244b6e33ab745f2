use Rattle.std.proofs.Common.{◌++◌, take, arith, rules}
use Rattle.mg_outside.proofs.Takings.{Takes-then, front_moves}
use Rattle.mg_outside.proofs.std_sink.StdSinkSink.write_all.Goals as goal

pub loop-rest-preserved : goal.loop-rest-preserved
loop-rest-preserved g c =
    let rest = c.loop-rest.rest.now in
    let count = c.in-Ok.count in
    let before = c.loop-rest.invariant in
    record {
      front = before.front ++ take count rest;
      whole = front_moves count _ before.front rest _ before.whole (omega arith);
      taken = Takes-then _ _ _ _ _ before.taken c.in-Ok.ensures.front;
      counted = search rules;
      calm = search rules;
    }

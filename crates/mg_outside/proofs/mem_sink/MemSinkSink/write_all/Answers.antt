use Rattle.std.proofs.Common.{take, drop, sym, rules}
use Rattle.std.proofs.lemmas.List.{take-append-drop}
use Rattle.mg_outside.proofs.mem_sink.MemSinkSink.write_all.Goals as goal

pub returns-in_ok-take_all-in-Some-clause-err : goal.returns-in_ok-take_all-in-Some-clause-err
returns-in_ok-take_all-in-Some-clause-err c =
    record {
      front = take c.in-Some.limit c.args.bytes.now;
      rest = drop c.in-Some.limit c.args.bytes.now;
      whole = sym (take-append-drop c.in-Some.limit c.args.bytes.now);
      taken = search rules;
    }

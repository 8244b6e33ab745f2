use Rattle.std.proofs.Common.{◌≡◌, List, ℕ, ◌++◌, length}
use Rattle.mg_outside.specs.Faults.{one_more}
use Rattle.mg_outside.specs.Taking.{Takes}
use Rattle.mg_outside.proofs.std_sink.StdSinkSink.write_all.Given as goal

-- what is no longer in the rest was taken, and no call has failed
abbrev pub invariant-loop-rest : goal.invariant-loop-rest
invariant-loop-rest g l = record {
  front : List ℕ;
  whole : l.initial.rest ≡ front ++ l.rest;
  taken : Takes (g.O.Output.taken l.fn.self.output) (g.O.Output.taken l.self-inside.out) front;
  counted : l.self-inside.writes ≡ one_more l.fn.self.writes;
  calm : g.O.Output.faults l.self-inside.out ≡ g.O.Output.faults l.fn.self.output;
}

abbrev pub decreases-loop-rest : goal.decreases-loop-rest
decreases-loop-rest g l = length l.rest

use Rattle.std.proofs.Common.{◌≡◌, drop}
use Rattle.mg_outside.specs.Memory.{limit_of}
use Rattle.mg_outside.proofs.mem_sink.limit.Given as goal

-- none of the entries so far has the number
abbrev pub invariant-loop-at : goal.invariant-loop-at
invariant-loop-at l = limit_of l.number (drop l.at-index l.failing) ≡ limit_of l.number l.failing

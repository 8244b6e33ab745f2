use Rattle.ios_config.proofs.RawFronts.{Passes}
use Rattle.ios_config.proofs.router.bytes_before_line.Given as goal

abbrev pub invariant-loop : goal.invariant-loop
invariant-loop l = Passes l.bytes l.rest l.counter

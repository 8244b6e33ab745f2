use Rattle.std.proofs.Common.{◌≡◌}
use Rattle.sat_core.proofs.search.Search.run.Given as goal

abbrev pub invariant-loop : goal.invariant-loop
invariant-loop l = l.store ≡ l.fn.store

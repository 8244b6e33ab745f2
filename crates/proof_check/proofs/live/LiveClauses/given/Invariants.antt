use Rattle.std.proofs.Common.{◌≡◌, Some, map, take}
use Rattle.proof_check.proofs.live.LiveClauses.given.Given as goal

abbrev pub invariant-loop-clause : goal.invariant-loop-clause
invariant-loop-clause l = l.live ≡ map Some (take l.clause-index l.clauses)

use Rattle.std.proofs.Common.{◌≡◌, drop}
use Rattle.proof_check.specs.Propagation.{propagates}
use Rattle.proof_check.proofs.table.Table.outcome.Given as goal

abbrev pub invariant-loop-place : goal.invariant-loop-place
invariant-loop-place l = propagates l.self (drop l.place l.lits) ≡ propagates l.self l.lits

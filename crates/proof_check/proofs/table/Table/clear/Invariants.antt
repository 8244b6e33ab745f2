use Rattle.std.proofs.Common.{◌≡◌, length}
use Rattle.proof_check.proofs.Trails.{IsReleasing}
use Rattle.proof_check.proofs.table.Table.clear.Given as goal

abbrev pub invariant-loop-self : goal.invariant-loop-self
invariant-loop-self l = record {
  releasing : IsReleasing l.self-inside.values.items l.self-inside.trail.items l.self-inside.count;
  len : length l.self-inside.values.items ≡ length l.initial.self-inside.values.items;
}

abbrev pub decreases-loop-self : goal.decreases-loop-self
decreases-loop-self l = l.self-inside.count

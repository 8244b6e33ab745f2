use Rattle.std.proofs.Common.{◌≡◌}
use Rattle.sat_core.proofs.learner.Learner.settle.Given as goal

abbrev pub invariant-loop-place : goal.invariant-loop-place
invariant-loop-place l = l.store ≡ l.fn.store

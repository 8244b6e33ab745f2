use Rattle.std.proofs.Common.{◌≡◌, ◌+◌, drop, length, map}
use Rattle.proof_check.specs.Propagation as propagation
use Rattle.proof_check.specs.Derivations.{live_at}
use Rattle.proof_check.proofs.step.hint_fault.Given as goal

abbrev pub invariant-loop-place : goal.invariant-loop-place
invariant-loop-place l = record {
  len : length l.table ≡ length l.initial.table;
  rest : propagation.hint_fault l.table (map (live_at l.live) (drop l.place l.hints)) (l.place + 1)
      ≡ propagation.hint_fault l.initial.table (map (live_at l.live) l.hints) 1;
}

use Rattle.std.proofs.Common.{◌≡◌, ◌+◌, ℕ, drop}
use Rattle.proof_check.specs.Derivations.{delete_fault, without_all}
use Rattle.proof_check.specs.Inside.Each.{LiveInRange}
use Rattle.proof_check.proofs.live.LiveClauses.delete_all.Given as goal

abbrev pub invariant-loop-place : goal.invariant-loop-place
invariant-loop-place l = record {
  rest : delete_fault l.self (drop l.place l.numbers) (l.place + 1) ≡ delete_fault l.initial.self l.numbers 1;
  after : without_all l.self (drop l.place l.numbers) ≡ without_all l.initial.self l.numbers;
  in_range : (vars : ℕ) → LiveInRange vars l.initial.self → LiveInRange vars l.self;
}

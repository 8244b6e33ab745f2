use Rattle.std.proofs.Common.{◌≡◌, ℕ, List, true, drop, is_some}
use Rattle.session.specs.Order.{is_ordered}
use Rattle.session.proofs.Carried.{SoFar}
use Rattle.session.proofs.statements.carry_out_all.Given as goal

abbrev pub invariant-loop-place : goal.invariant-loop-place
invariant-loop-place g l = record {
  so_far : SoFar (g.F.Files.holds l.initial.files) l.statements (drop l.place l.statements) l.state (g.F.Files.log l.initial.files) (g.F.Files.log l.files) (g.S.Sink.log l.initial.out) (g.S.Sink.log l.out);
  same : (file : List ℕ) → g.F.Files.holds l.files file ≡ g.F.Files.holds l.initial.files file;
  ordered : is_ordered (is_some l.state.question) (drop l.place l.statements) ≡ true;
}

use Rattle.std.proofs.Common.{inl, inr}
use Rattle.std.proofs.lemmas.Result.{err_from_is_err_and}
use Rattle.solver_run.specs.Run.{bad_formula}
use Rattle.solver_run.proofs.Readings.{long_is_no_formula, unread_weaker}
use Rattle.solver_run.proofs.unread.read_formula.Goals as goal

pub returns-in_err-bytes-clause-unread : goal.returns-in_err-bytes-clause-unread
returns-in_err-bytes-clause-unread g c =
    let p = err_from_is_err_and c.from_residual.result c.from_residual.ensures.1 in
    rw (p.1, p.2) (unread_weaker _ _ c.args.file.now _ _ (long_is_no_formula (g.F.Files.holds c.args.files.now) c.args.file.now) c.in_err-bytes.field-0.0 c.in_err-bytes.ensures.unread)

pub returns-in-Err-At-clause-unread : goal.returns-in-Err-At-clause-unread
returns-in-Err-At-clause-unread g c =
    let gives = rw (← c.as_slice.ensures.value) at c.in_ok-bytes.ensures.gives in
    let refused = rw c.in-Err-At.field-0-is at c.in-Err-At.ensures.refused in
    elim refused [
      | inl same ↦ absurd (cc)
      | inr refuses ↦ (rw c.dimacs_reason.ensures (bad_formula c.as_slice.result.now c.in-Err-At.line c.in-Err-At.reason gives refuses), c.in_ok-bytes.ensures.read)
    ]

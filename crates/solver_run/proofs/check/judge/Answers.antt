use Rattle.std.proofs.Common.{◌≡◌, Some, inl, inr, sym, ap, ◌∙◌}
use Rattle.solver_run.specs.RunLines.{check_reason}
use Rattle.solver_run.specs.Inside.Endings.{rejected}
use Rattle.solver_run.proofs.check.judge.Goals as goal

pub returns-in-Some : goal.returns-in-Some
returns-in-Some g c =
    let named : check_reason c.in-Err.fault ≡ Some c.in-Some.reason = sym c.check_reason.ensures ∙ c.in-Some.is in
    elim c.in-Err.ensures [
      | inl same ↦ let none = ap check_reason same in absurd (cc)
      | inr found ↦ rejected c.in-Err.fault c.in-Some.reason found named c.refuse.ensures
    ]

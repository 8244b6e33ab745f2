use Rattle.std.proofs.Common.{◌≡◌, ◌+◌, inr, length, Some, None, subst, sym, ◌∙◌}
use Rattle.std.proofs.lemmas.Bool.{OnTrue_at}
use Rattle.cnf.specs.Clauses.{IsInRange}
use Rattle.certificates.specs.declared.derivation.Item.TheVariants as items
use Rattle.proof_check.specs.declared.fault.CheckFault.TheVariants as fault
use Rattle.proof_check.specs.Inside.Judging.{Checking, item_fault}
use Rattle.proof_check.proofs.Living.{is_in_range-from}
use Rattle.proof_check.proofs.Judged.{hint_is_fault, step_is_right}
use Rattle.proof_check.proofs.checking.Checker.add.Goals as goal

pub returns-in-Some-clause-fault : goal.returns-in-Some-clause-fault
returns-in-Some-clause-fault c =
    let inside = c.self.inside in
    let step = c.args.step.now in
    let before : Checking = record { vars = length inside.table; progress = record { live = inside.live; items = inside.items; steps = inside.steps; refuted = inside.refuted } } in
    let within : IsInRange (length inside.table) step.clause = subst (λ n. IsInRange n step.clause) c.len.ensures (subst (IsInRange c.len.result) c.lits.ensures (OnTrue_at c.if-not-are_in_range.false c.are_in_range.ensures.yes)) in
    inr (subst (λ v. item_fault v (items.Add step) ≡ Some (fault.Hint (inside.steps + 1) c.in-Some.place)) c.self.view_is
    (hint_is_fault before step c.in-Some.place (is_in_range-from (length inside.table) step.clause within) (sym c.in-Some.is ∙ c.step_fault.ensures.fault)))

pub returns-clause-fault : goal.returns-clause-fault
returns-clause-fault c =
    let inside = c.self.inside in
    let step = c.args.step.now in
    let before : Checking = record { vars = length inside.table; progress = record { live = inside.live; items = inside.items; steps = inside.steps; refuted = inside.refuted } } in
    let within : IsInRange (length inside.table) step.clause = subst (λ n. IsInRange n step.clause) c.len.ensures (subst (IsInRange c.len.result) c.lits.ensures (OnTrue_at c.if-not-are_in_range.false c.are_in_range.ensures.yes)) in
    subst (λ v. item_fault v (items.Add step) ≡ None) c.self.view_is
    (step_is_right before step (is_in_range-from (length inside.table) step.clause within) (sym c.in_default.is ∙ c.step_fault.ensures.fault))

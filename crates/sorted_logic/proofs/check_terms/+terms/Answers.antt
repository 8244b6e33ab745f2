use Rattle.std.specs.Result.{result_err}
use Rattle.std.proofs.Common.{◌≡◌, Some, rules, sym, ◌∙◌}
use Rattle.sorted_logic.proofs.Arguments.{has_place, has_no_place, wrong_number, misfit_here, fault_here, no_fault_here, no_fault}
use Rattle.sorted_logic.proofs.TreeEquations.{tree_of_variable}
use Rattle.sorted_logic.proofs.check_terms.+terms.Goals as goal

pub check_term-returns-in-Some : goal.check_term-returns-in-Some
check_term-returns-in-Some t c =
    rw (c.in-Var.is, tree_of_variable) (sym (has_place _ _ _ (sym c.get.ensures ∙ c.in-Some.is)))

pub check_term-returns-in-None : goal.check_term-returns-in-None
check_term-returns-in-None t c =
    rw (c.in-Var.is, tree_of_variable) (sym (has_no_place _ _ (sym c.get.ensures ∙ c.in-None.is)))

pub check_arguments-returns-then-args-required : goal.check_arguments-returns-then-args-required
check_arguments-returns-then-args-required t c =
    wrong_number _ _ _ c.args.required.now c.args.args.now c.if-args-required.true

pub check_arguments-returns-in_err-check_fit : goal.check_arguments-returns-in_err-check_fit
check_arguments-returns-in_err-check_fit t c =
    let told : result_err c.from_residual.result ≡ Some c.in_err-check_fit.field-0.0 = search rules in
    told ∙ misfit_here _ _ _ c.args.required.now c.args.args.now c.loop-i.i (record { 0 = 0 }) c.index-args-i.result
    c.index-args-i.is c.loop-i-test.true c.loop-i.invariant _ c.in_err-check_fit.ensures

pub check_arguments-returns-in_err-check_term : goal.check_arguments-returns-in_err-check_term
check_arguments-returns-in_err-check_term t c =
    let told : result_err c.from_residual-in_err-check_term.result ≡ Some c.in_err-check_term.field-0.0 = search rules in
    told ∙ fault_here _ _ _ c.args.required.now c.args.args.now c.loop-i.i (record { 0 = 0 }) c.index-args-i.result
    c.index-args-i.is c.loop-i-test.true c.loop-i.invariant _ c.in_ok-check_fit.ensures c.in_err-check_term.ensures

pub check_arguments-loop-i-preserved : goal.check_arguments-loop-i-preserved
check_arguments-loop-i-preserved t c =
    no_fault_here _ _ _ c.args.required.now c.args.args.now c.loop-i.i (record { 0 = 0 }) c.index-args-i.result
    c.index-args-i.is c.loop-i-test.true c.loop-i.invariant c.in_ok-check_fit.ensures c.in_ok-check_term.ensures

pub check_arguments-returns : goal.check_arguments-returns
check_arguments-returns t c =
    no_fault _ _ _ c.args.required.now c.args.args.now c.loop-i.i c.loop-i.invariant c.loop-i-test.false

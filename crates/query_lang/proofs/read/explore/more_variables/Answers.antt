use Rattle.std.proofs.Common.{rules, arith}
use Rattle.query_lang.proofs.Explores.{vars_more, vars_stop0, vars_end, vars_unended}
use Rattle.query_lang.proofs.read.explore.more_variables.Goals as goal

pub returns-in_err-part-clause-refused : goal.returns-in_err-part-clause-refused
returns-in_err-part-clause-refused c = search (rules, vars_stop0 _ _ _ _ _ _ _ c.loop-behind.invariant.leads c.in-Some.ensures.some c.in_err-part.ensures.refused)

pub loop-behind-preserved : goal.loop-behind-preserved
loop-behind-preserved c =
    let l = vars_more _ _ _ _ _ _ _ c.loop-behind.invariant.leads c.in-Some.ensures.some c.in_ok-part.ensures.read in
    record { leads = rw c.in_ok-push-2.ensures.ok l; past = omega (arith, c.in_ok-part.ensures.next, c.in-Some.ensures.next, c.loop-behind.invariant.past); within = omega (arith, c.in_ok-part.ensures.next) }

pub returns-in_err-end-clause-refused : goal.returns-in_err-end-clause-refused
returns-in_err-end-clause-refused c = search (rules, vars_unended _ _ _ _ _ _ c.loop-behind.invariant.leads c.in_err-end.ensures.refused c.in_default.ensures.none)

pub returns-clause-read : goal.returns-clause-read
returns-clause-read c = vars_end _ _ _ _ _ c.loop-behind.invariant.leads c.in_ok-end.ensures.read c.in_default.ensures.none

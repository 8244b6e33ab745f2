use Rattle.std.proofs.Common.{rules, arith}
use Rattle.query_lang.proofs.Terms.{called_read, called_stops0, arg_term, args_read, args_stops0, args_stops1, args_chain_end, args_chain_unended}
use Rattle.query_lang.proofs.read.terms.+term.Goals as goal

pub called-returns-in-Some-clause-read : goal.called-returns-in-Some-clause-read
called-returns-in-Some-clause-read t c = called_read _ _ _ _ _ _ c.in-Some.ensures.some c.in_ok-args.ensures.read

pub called-returns-in_err-args-clause-refused : goal.called-returns-in_err-args-clause-refused
called-returns-in_err-args-clause-refused t c = search (rules, called_stops0 c.args.level c.args.text _ _ _ _ c.in-Some.ensures.some c.in_err-args.ensures.refused)

pub argument-returns-clause-read : goal.argument-returns-clause-read
argument-returns-clause-read t c = arg_term _ _ _ _ c.in_default.ensures.none c.in_ok-value.ensures.read

pub arguments-returns-clause-read : goal.arguments-returns-clause-read
arguments-returns-clause-read t c = args_read _ _ _ _ _ _ _ c.requires.opens (omega arith) c.in_default.ensures.none c.in_ok-first.ensures.read c.in_ok-args.ensures.read

pub arguments-returns-in_err-first-clause-refused : goal.arguments-returns-in_err-first-clause-refused
arguments-returns-in_err-first-clause-refused t c = search (rules, args_stops0 c.args.level _ _ _ _ c.requires.opens (omega arith) c.in_default.ensures.none c.in_err-first.ensures.refused)

pub arguments-returns-in_err-args-clause-refused : goal.arguments-returns-in_err-args-clause-refused
arguments-returns-in_err-args-clause-refused t c = search (rules, args_stops1 c.args.level _ _ _ _ _ _ c.requires.opens (omega arith) c.in_default.ensures.none c.in_ok-first.ensures.read c.in_err-args.ensures.refused)

pub more_arguments-returns-in_err-end-clause-refused : goal.more_arguments-returns-in_err-end-clause-refused
more_arguments-returns-in_err-end-clause-refused t c = search (rules, args_chain_unended c.args.level _ _ _ _ _ _ c.loop-behind.invariant.leads c.in_err-end.ensures.refused c.in_default.ensures.none)

pub more_arguments-returns-clause-read : goal.more_arguments-returns-clause-read
more_arguments-returns-clause-read t c = args_chain_end _ _ _ _ _ _ c.loop-behind.invariant.leads c.in_ok-end.ensures.read c.in_default.ensures.none

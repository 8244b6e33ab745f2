use Rattle.std.proofs.Common.{rules, arith}
use Rattle.query_lang.proofs.Formulas.{not_read, not_stops, quantified_read, quantified_stops0, quantified_stops1, group_read, group_stops0, group_stops1}
use Rattle.query_lang.proofs.read.formulas.+formula.Goals as goal

pub negation-returns-clause-read : goal.negation-returns-clause-read
negation-returns-clause-read t c = rw c.in_ok-body.ensures (not_read _ _ _ _ _ c.requires.not (omega arith) c.in_ok-value.ensures.read)

pub negation-returns-in_err-value-clause-refused : goal.negation-returns-in_err-value-clause-refused
negation-returns-in_err-value-clause-refused t c = search (rules, not_stops c.args.level _ _ _ _ c.requires.not (omega arith) c.in_err-value.ensures.refused)

pub quantified-returns-clause-read : goal.quantified-returns-clause-read
quantified-returns-clause-read t c =
    rw (c.quantify.ensures, c.in_ok-body.ensures)
    (quantified_read c.args.level c.args.word c.in_ok-name.name c.in_ok-name.sort _ _ _ _ _ c.requires.quantifier c.requires.starts (omega arith) c.in_ok-name.ensures.read c.in_ok-value.ensures.read)

pub quantified-returns-in_err-name-clause-refused : goal.quantified-returns-in_err-name-clause-refused
quantified-returns-in_err-name-clause-refused t c =
    search (rules, quantified_stops0 c.args.level c.args.word _ _ _ _ c.requires.quantifier c.requires.starts (omega arith) c.in_err-name.ensures.refused)

pub quantified-returns-in_err-value-clause-refused : goal.quantified-returns-in_err-value-clause-refused
quantified-returns-in_err-value-clause-refused t c =
    search (rules, quantified_stops1 c.args.level c.args.word c.in_ok-name.name c.in_ok-name.sort _ _ _ _ _ c.requires.quantifier c.requires.starts (omega arith) c.in_ok-name.ensures.read c.in_err-value.ensures.refused)

pub group-returns-in-Ok-clause-read : goal.group-returns-in-Ok-clause-read
group-returns-in-Ok-clause-read t c = group_read c.args.level _ _ _ _ _ c.requires.opens (omega arith) c.in_ok-value.ensures.read c.in-Ok.ensures.read

pub group-returns-in_err-value-clause-refused : goal.group-returns-in_err-value-clause-refused
group-returns-in_err-value-clause-refused t c = search (rules, group_stops0 c.args.level _ _ _ _ c.requires.opens (omega arith) c.in_err-value.ensures.refused)

pub group-returns-in-Err-clause-refused : goal.group-returns-in-Err-clause-refused
group-returns-in-Err-clause-refused t c = search (rules, group_stops1 c.args.level _ _ _ _ _ _ c.requires.opens (omega arith) c.in_ok-value.ensures.read c.in-Err.ensures.refused)

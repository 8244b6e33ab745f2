use Rattle.std.proofs.Common.{rules}
use Rattle.query_lang.proofs.Commands.{literals_end, literals_unended}
use Rattle.query_lang.proofs.read.commands.more_literals.Goals as goal

pub returns-in_err-end-clause-refused : goal.returns-in_err-end-clause-refused
returns-in_err-end-clause-refused c = search (rules, literals_unended _ _ _ _ _ _ c.loop-behind.invariant.leads c.in_err-end.ensures.refused c.in_default.ensures.none)

pub returns-clause-read : goal.returns-clause-read
returns-clause-read c = literals_end _ _ _ _ _ c.loop-behind.invariant.leads c.in_ok-end.ensures.read c.in_default.ensures.none

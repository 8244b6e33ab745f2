use Rattle.std.proofs.Common.{rules}
use Rattle.query_lang.proofs.Atoms.{tail_path_stops, tail_colon_stops, tail_call_stops}
use Rattle.query_lang.proofs.read.atoms.atom_tail.Goals as goal

pub returns-in_err-value-clause-refused : goal.returns-in_err-value-clause-refused
returns-in_err-value-clause-refused c = search (rules, tail_path_stops c.args.level _ _ _ _ _ c.in-Some.ensures.some c.in_err-value.ensures.refused)

pub returns-in_err-value-2-clause-refused : goal.returns-in_err-value-2-clause-refused
returns-in_err-value-2-clause-refused c = search (rules, tail_colon_stops c.args.level _ _ _ _ _ c.in-Some-past_sign.ensures.some c.in_err-value-2.ensures.refused)

pub returns-in_err-value-3-clause-refused : goal.returns-in_err-value-3-clause-refused
returns-in_err-value-3-clause-refused c = search (rules, tail_call_stops c.args.level _ _ _ _ _ c.in-Some-past_sign-2.ensures.some c.in_err-value-3.ensures.refused)

use Rattle.std.proofs.Common.{rules}
use Rattle.query_lang.proofs.Literals.{byte_dotted_stops}
use Rattle.query_lang.proofs.read.literals.numeral.Goals as goal

pub returns-in_err-number-clause-refused : goal.returns-in_err-number-clause-refused
returns-in_err-number-clause-refused c =
    search (rules, byte_dotted_stops _ _ _ _ _ _ _ c.requires.digits c.in-Some.ensures.some.0 c.in-Some.ensures.some.1 c.in-Some-past_sign.ensures.some c.in_err-number.ensures.refused)

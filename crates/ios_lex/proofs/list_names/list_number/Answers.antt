use Rattle.ios_lex.proofs.Absence.{none_weaker}
use Rattle.ios_lex.proofs.ListNumbers.{no_list_number}
use Rattle.ios_lex.proofs.list_names.list_number.Goals as goal

pub returns-clause-none : goal.returns-clause-none
returns-clause-none c = none_weaker c.number.result (no_list_number c.args.name.now) c.number.ensures.none

use Rattle.ios_lex.proofs.NextWordForms.{address_stop}
use Rattle.ios_lex.proofs.next.next_address.Goals as goal

pub returns-in_default-clause-stop : goal.returns-in_default-clause-stop
returns-in_default-clause-stop c =
    address_stop c.args.words.now c.stop_before.result c.stop_before.ensures.left c.stop_before.ensures.due c.in_default.ensures.none

use Rattle.std.proofs.Common.{◌≡◌, length, ap, arith}
use Rattle.std.proofs.lemmas.Bool.Decides.{nat_tests}
use Rattle.ios_lex.proofs.LineParts.{end_stop}
use Rattle.ios_lex.proofs.next.next_end.Goals as goal

pub returns-else-is_empty-clause-stop : goal.returns-else-is_empty-clause-stop
returns-else-is_empty-clause-stop c =
    end_stop c.args.words.now c.stop_before.result c.stop_before.ensures.left c.stop_before.ensures.due (λ none. let zero : length c.args.words.now ≡ 0 = ap length none in grind (arith, nat_tests))

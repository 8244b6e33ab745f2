use Rattle.ios_lex.proofs.LineWords.{words_more}
use Rattle.ios_lex.proofs.words.words_in.Goals as goal

pub loop-rest-preserved : goal.loop-rest-preserved
loop-rest-preserved c =
    words_more c.loop-rest.words.items c.push_word.new.words.items c.args.line.now c.loop-rest.rest.now c.next_part.result.0.now c.next_part.result.1.now c.loop-rest.invariant c.next_part.ensures.words c.in_ok-push_word.ensures

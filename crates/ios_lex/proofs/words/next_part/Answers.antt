use Rattle.std.proofs.Common.{◌≡◌, ◌+◌, ◌-◌, length, take, drop, [], arith, rules}
use Rattle.std.proofs.lemmas.List.{take_rest}
use Rattle.ios_lex.proofs.LineWords.{words_first, words_last}
use Rattle.ios_lex.proofs.words.next_part.Goals as goal

pub returns-then-end-text-clause-words : goal.returns-then-end-text-clause-words
returns-then-end-text-clause-words c =
    rw (take_rest c.args.text.now (c.word_len-end.result + 1)) (words_first c.args.text.now c.word_len-end.result c.word_len-end.ensures.value (omega arith))

pub returns-else-end-text-clause-words : goal.returns-else-end-text-clause-words
returns-else-end-text-clause-words c =
    let none : take (length c.args.text.now - c.word_len-end.result) (drop c.word_len-end.result c.args.text.now) ≡ [] = search rules in
    rw none (words_last c.args.text.now c.word_len-end.result c.word_len-end.ensures.value (omega arith))

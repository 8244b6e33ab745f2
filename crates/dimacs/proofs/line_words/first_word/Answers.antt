use Rattle.std.proofs.lemmas.List.{take_rest}
use Rattle.dimacs.proofs.LineTexts.{no_first_word, first_word_of}
use Rattle.dimacs.proofs.line_words.first_word.Goals as goal

pub returns-then-end-eq0-clause-none : goal.returns-then-end-eq0-clause-none
returns-then-end-eq0-clause-none c =
    let start = c.blank_count.result in
    let rest = take_rest c.args.line.now start in
    let behind = rw (rest, c.if-end-eq0.true) at c.word_len-end.ensures.behind in
    no_first_word c.args.line.now start c.blank_count.ensures.within c.blank_count.ensures.blank c.blank_count.ensures.behind behind

pub returns-clause-found : goal.returns-clause-found
returns-clause-found c =
    let start = c.blank_count.result in
    let rest = take_rest c.args.line.now start in
    let ensures = rw rest at c.word_len-end.ensures in
    rw (rest, take_rest) (first_word_of c.args.line.now start c.word_len-end.result c.blank_count.ensures.blank (λ none. c.if-end-eq0.false none) ensures.within ensures.word ensures.behind)

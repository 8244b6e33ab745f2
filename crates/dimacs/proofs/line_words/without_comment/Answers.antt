use Rattle.std.proofs.Common.{sym, refl}
use Rattle.dimacs.proofs.LineTexts.{commented, no_word, uncommented}
use Rattle.dimacs.proofs.line_words.without_comment.Goals as goal

pub returns-then-is_comment : goal.returns-then-is_comment
returns-then-is_comment c number = rw (no_word, commented number c.args.line.now (rw c.if-is_comment.true at (sym c.is_comment.ensures))) refl

pub returns-else-is_comment : goal.returns-else-is_comment
returns-else-is_comment c number = uncommented number c.args.line.now (rw c.if-is_comment.false at (sym c.is_comment.ensures))

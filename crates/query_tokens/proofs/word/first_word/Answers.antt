use Rattle.std.proofs.Common.{rules}
use Rattle.query_tokens.proofs.Beginnings.{word_begins, word_stops}
use Rattle.query_tokens.proofs.word.first_word.Goals as goal

pub returns-then-begins_word-clause-word : goal.returns-then-begins_word-clause-word
returns-then-begins_word-clause-word c = word_begins c.args.text.now _ _ (search rules) (search rules) c.word_len.ensures.value c.split_at.ensures.front

pub returns-then-begins_word-clause-stops : goal.returns-then-begins_word-clause-stops
returns-then-begins_word-clause-stops c = word_stops c.args.text.now _ _ c.word_len.ensures.value c.split_at.ensures.back

use Rattle.std.proofs.Common.{rules}
use Rattle.query_tokens.specs.Words.IsWordToken.{keyword, name, digits, other}
use Rattle.query_tokens.proofs.Beginnings.{letter_first}
use Rattle.query_tokens.proofs.word.word_token.Goals as goal

pub returns-in-Some : goal.returns-in-Some
returns-in-Some c = keyword c.in-Some.keyword c.in-Some.ensures.found

pub returns-then-is_ascii_alphabetic : goal.returns-then-is_ascii_alphabetic
returns-then-is_ascii_alphabetic c = rw c.in_ok-text.ensures (name c.in_default.ensures.none (letter_first c.args.word.now _ c.requires (search rules)))

pub returns-then-is_numeral : goal.returns-then-is_numeral
returns-then-is_numeral c = rw c.in_ok-text.ensures (digits (search rules))

pub returns-else-is_numeral : goal.returns-else-is_numeral
returns-else-is_numeral c = rw c.in_ok-text.ensures (other (letter_first c.args.word.now _ c.requires (search rules)) (search rules))

use Rattle.std.proofs.Common.{◌≡◌, ◌++◌, drop}
use Rattle.query_tokens.specs.Writing.{text_behind, line_text}
use Rattle.query_tokens.proofs.writing.line_of.Given as goal

-- what is written, and what follows the last token, is the line
abbrev pub invariant-loop-token : goal.invariant-loop-token
invariant-loop-token l = l.line.items ++ text_behind l.last (drop l.token-index l.others) ≡ line_text l.tokens

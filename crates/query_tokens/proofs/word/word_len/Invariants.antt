use Rattle.std.proofs.Common.{◌≡◌, ℕ, ◌<◌, true, get_or}
use Rattle.query_tokens.specs.Words.{continues_word}
use Rattle.query_tokens.proofs.word.word_len.Given as goal

abbrev pub invariant-loop-i : goal.invariant-loop-i
invariant-loop-i l = (k : ℕ) → k < l.i → continues_word (get_or l.text k 0) ≡ true

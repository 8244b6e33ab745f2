use Rattle.std.proofs.Common.{◌≡◌, ℕ, ◌<◌, get_or}
use Rattle.query_tokens.specs.declared.keyword.Keyword.{Keyword}
use Rattle.query_tokens.specs.Keywords.{letters}
use Rattle.query_tokens.proofs.keyword.keyword_among.Given as goal

-- the word is none of the keywords so far
abbrev pub invariant-loop-keyword : goal.invariant-loop-keyword
invariant-loop-keyword l = (d : Keyword) (k : ℕ) → k < l.keyword-index → l.word ≡ letters (get_or l.keywords k d) → ⊥

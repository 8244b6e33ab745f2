use Rattle.std.proofs.Common.{◌≡◌, ℕ, ◌<◌, true, get_or}
use Rattle.ios_lex.specs.Words.{is_gap}
use Rattle.ios_lex.proofs.words.gap_len.Given as goal

abbrev pub invariant-loop-i : goal.invariant-loop-i
invariant-loop-i l = (k : ℕ) → k < l.i → is_gap (get_or l.text k 0) ≡ true

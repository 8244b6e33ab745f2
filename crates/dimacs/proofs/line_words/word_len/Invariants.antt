use Rattle.std.proofs.Common.{◌≡◌, false, take}
use Rattle.std.specs.List.{list_any}
use Rattle.dimacs.specs.Words.{is_blank}
use Rattle.dimacs.proofs.line_words.word_len.Given as goal

abbrev pub invariant-loop-i : goal.invariant-loop-i
invariant-loop-i l = list_any is_blank (take l.i l.text) ≡ false

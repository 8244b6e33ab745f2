use Rattle.std.proofs.Common.{◌≡◌, true, take}
use Rattle.std.specs.List.{list_all}
use Rattle.dimacs.specs.Words.{is_blank}
use Rattle.dimacs.proofs.line_words.blank_count.Given as goal

abbrev pub invariant-loop-i : goal.invariant-loop-i
invariant-loop-i l = list_all is_blank (take l.i l.line) ≡ true

use Rattle.std.proofs.Common.{◌≤◌, length}
use Rattle.notes.proofs.words.words_of.Given as goal

-- what was passed lies within the line
abbrev pub invariant-loop : goal.invariant-loop
invariant-loop l = l.end ≤ length l.line.behind.now

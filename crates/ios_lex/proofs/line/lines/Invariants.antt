use Rattle.std.proofs.Common.{◌+◌, ◌≤◌, length, map}
use Rattle.ios_lex.specs.LineReadings.{reading_of}
use Rattle.ios_lex.proofs.Parts.{ReadSoFar}
use Rattle.ios_lex.proofs.line.lines.Given as goal

abbrev pub invariant-loop-line : goal.invariant-loop-line
invariant-loop-line l = record {
  so_far : ReadSoFar l.bytes l.rest l.number (map reading_of l.lines.items);
  fits : l.number + length l.rest ≤ length l.bytes + 1;
}

abbrev pub decreases-loop-line : goal.decreases-loop-line
decreases-loop-line l = length l.rest

use Rattle.std.proofs.Common.{◌+◌, ◌≤◌, length}
use Rattle.certificates.specs.Lines.{text_lines}
use Rattle.certificates.proofs.Heads.{SkippedSoFar}
use Rattle.certificates.proofs.head.find_head.Given as goal

abbrev pub invariant-loop-line : goal.invariant-loop-line
invariant-loop-line l = record {
  so_far : SkippedSoFar (text_lines l.bytes) l.number (text_lines l.rest);
  fits : l.number + length l.rest ≤ length l.bytes + 1;
}

abbrev pub decreases-loop-line : goal.decreases-loop-line
decreases-loop-line l = length l.rest

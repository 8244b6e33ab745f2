use Rattle.std.proofs.Common.{◌+◌, ◌≤◌, length}
use Rattle.certificates.specs.Lines.{text_lines}
use Rattle.certificates.proofs.ItemLines.{ItemsSoFar}
use Rattle.certificates.proofs.items.items.Given as goal

abbrev pub invariant-loop-line : goal.invariant-loop-line
invariant-loop-line l = record {
  so_far : ItemsSoFar l.version l.first (text_lines l.text) l.items.items l.number (text_lines l.rest);
  fits : l.number + length l.rest ≤ l.first + length l.text;
}

abbrev pub decreases-loop-line : goal.decreases-loop-line
decreases-loop-line l = length l.rest

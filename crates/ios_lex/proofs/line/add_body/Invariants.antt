use Rattle.std.proofs.Common.{ℕ, ◌+◌, ◌≤◌, List, length, map}
use Rattle.ios_lex.specs.Banner.{IsNowhere}
use Rattle.ios_lex.specs.LineReadings.{reading_of}
use Rattle.ios_lex.proofs.BannerLines.{Passes}
use Rattle.ios_lex.proofs.line.add_body.Given as goal

abbrev pub invariant-loop-line : goal.invariant-loop-line
invariant-loop-line l = record {
  passed : (lines : List (List ℕ)) × Passes l.text l.rest l.first l.number (map reading_of l.fn.lines.items) (map reading_of l.lines.items) lines × IsNowhere l.delimiter lines;
  fits : l.number + length l.rest ≤ l.first + length l.text;
  shorter : length l.rest ≤ length l.text;
}

abbrev pub decreases-loop-line : goal.decreases-loop-line
decreases-loop-line l = length l.rest

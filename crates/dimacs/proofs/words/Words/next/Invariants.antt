use Rattle.std.proofs.Common.{◌≡◌, ◌+◌, ◌^◌, ◌<◌, ◌++◌, length, map}
use Rattle.certificates.specs.Lines.{text_lines}
use Rattle.dimacs.specs.Words.{line_words, placed, words_from}
use Rattle.dimacs.proofs.words.Words.next.Given as goal

abbrev pub invariant-loop-text : goal.invariant-loop-text
invariant-loop-text l = record {
  words : map (placed l.self-inside.number) (line_words l.self-inside.line.now) ++ words_from (l.self-inside.number + 1) (text_lines l.self-inside.rest.now) ≡ l.fn.self.words;
  end : (l.self-inside.number + 1) + length (text_lines l.self-inside.rest.now) ≡ l.fn.self.end;
  small : l.self-inside.number + length l.self-inside.rest.now < 2 ^ 63;
}

abbrev pub decreases-loop-text : goal.decreases-loop-text
decreases-loop-text l = length l.self-inside.rest.now

-- What the lines that are handed out read.
use Rattle.std.specs.Prelude.{ℕ, List}
use Rattle.ios_lex.specs.declared.line.Line.{Line}
use Rattle.ios_lex.specs.declared.line.LexFault.{LexFault}
use Rattle.ios_lex.specs.declared.line.LexFault.TheVariants as fault
use Rattle.ios_lex.specs.RawLines.{raw_lines}
use Rattle.ios_lex.specs.Lines.{Reading, IsUnclosed}

abbrev pub reading_of : Line → Reading
reading_of line = record {
  number = line.number;
  indented = line.indented;
  banner = line.banner;
  words = line.words.items;
}

-- a banner of the bytes has no end; memory may be wanting at any time
abbrev pub IsFault : List ℕ → LexFault → Type 0
IsFault bytes (fault.Unclosed line) = IsUnclosed 1 (raw_lines bytes) line
IsFault bytes fault.NoMemory = Unit {0}

use Rattle.ios_lex.specs.RawLines.{raw_lines}
use Rattle.ios_lex.proofs.EachReading.{each_reading}
use Rattle.ios_lex.proofs.OneReading.{lines_are_one, unclosed_is_one, not_both_kinds}
use Rattle.ios_lex.proofs.line.one_line_reading.Goals as goal

pub returns : goal.returns
returns c = record {
  some = λ bytes. each_reading 1 (raw_lines bytes);
  not_both = λ bytes answer line are unclosed. not_both_kinds are unclosed;
  same_lines = λ bytes answer other first second. lines_are_one first second;
  same_fault = λ bytes line other first second. unclosed_is_one first second;
}

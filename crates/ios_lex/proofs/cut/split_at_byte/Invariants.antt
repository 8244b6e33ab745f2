use Rattle.std.proofs.Common.{take}
use Rattle.ios_lex.specs.Cut.{IsFree}
use Rattle.ios_lex.proofs.cut.split_at_byte.Given as goal

abbrev pub invariant-loop-i : goal.invariant-loop-i
invariant-loop-i l = IsFree l.byte (take l.i l.text)

use Rattle.std.proofs.Common.{take}
use Rattle.certificates.specs.Parts.Cuts.{IsFree}
use Rattle.certificates.proofs.cut.split_at_byte.Given as goal

abbrev pub invariant-loop-i : goal.invariant-loop-i
invariant-loop-i l = IsFree l.byte (take l.i l.text)

use Rattle.std.proofs.Common.{take}
use Rattle.proof_check.specs.Inside.Trim.{Marks}
use Rattle.proof_check.proofs.trimming.mark.Given as goal

abbrev pub invariant-loop-number : goal.invariant-loop-number
invariant-loop-number l = Marks l.given (take l.number-index l.numbers) l.initial.named l.named

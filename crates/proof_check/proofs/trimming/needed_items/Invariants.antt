use Rattle.proof_check.specs.Inside.Trim.{pointed}
use Rattle.proof_check.proofs.Flags.{IsBack}
use Rattle.proof_check.proofs.trimming.needed_items.Given as goal

abbrev pub invariant-loop-place : goal.invariant-loop-place
invariant-loop-place l = IsBack l.given (pointed l.steps) l.place l.items.items l.named

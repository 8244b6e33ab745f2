use Rattle.proof_check.proofs.Counting.{IsCounted}
use Rattle.proof_check.proofs.trimming.new_numbers.Given as goal

abbrev pub invariant-loop-place : goal.invariant-loop-place
invariant-loop-place l = IsCounted l.given l.named l.place l.last l.numbers.items

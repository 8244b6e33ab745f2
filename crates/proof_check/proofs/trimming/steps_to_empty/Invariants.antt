use Rattle.std.proofs.Common.{◌≡◌, ◌++◌, drop}
use Rattle.proof_check.specs.Trimming as specs
use Rattle.proof_check.specs.Inside.Trim.{pointed}
use Rattle.proof_check.proofs.trimming.steps_to_empty.Given as goal

abbrev pub invariant-loop-item : goal.invariant-loop-item
invariant-loop-item l = pointed l.steps.items ++ specs.steps_to_empty (drop l.item-index l.items) ≡ specs.steps_to_empty l.items

use Rattle.std.proofs.Common.{arith}
use Rattle.std.proofs.Math.Seq.{drop-length}
use Rattle.sorted_logic.proofs.TreeEquations.{tree_of_false}
use Rattle.combiners.proofs.rules.first_rule.Goals as goal

pub loop-at-init : goal.loop-at-init
loop-at-init c = record { within = omega arith; said = rw (drop-length c.args.rules.now) tree_of_false }

use Rattle.std.proofs.Common.{length}
use Rattle.combiners.proofs.rules.+under.Given as goal

abbrev pub decreases-under : goal.decreases-under
decreases-under l = length l.variables.now

use Rattle.std.proofs.Common.{◌-◌, vec_len}
use Rattle.sat_core.proofs.split.+split.Given as goal

abbrev pub decreases-split : goal.decreases-split
decreases-split l = l.cnf.now.vars - vec_len l.chosen.now

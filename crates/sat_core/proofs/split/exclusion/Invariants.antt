use Rattle.std.proofs.Common.{◌≡◌, drop, ◌++◌}
use Rattle.sat_core.specs.Inside.Split.{excluding}
use Rattle.sat_core.proofs.split.exclusion.Given as goal

abbrev pub invariant-loop-var : goal.invariant-loop-var
invariant-loop-var l = l.lits.items ++ excluding l.var (drop l.var l.chosen) ≡ excluding 0 l.chosen

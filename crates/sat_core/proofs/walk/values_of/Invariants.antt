use Rattle.std.proofs.Common.{◌≡◌, take, map, Some}
use Rattle.sat_core.proofs.walk.values_of.Given as goal

abbrev pub invariant-loop-var : goal.invariant-loop-var
invariant-loop-var l = take l.var l.table ≡ map Some l.values.items

use Rattle.std.proofs.Common.{drop}
use Rattle.circuit.proofs.Unsettled.{IsUnderWay}
use Rattle.circuit.proofs.table.Table.settle.Given as goal

abbrev pub invariant-loop-place : goal.invariant-loop-place
invariant-loop-place l = IsUnderWay l.gates l.chosen l.values.items l.unsettled.items (drop l.place-index l.place-items)

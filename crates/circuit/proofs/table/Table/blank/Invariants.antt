use Rattle.std.proofs.Common.{◌<◌, ℕ}
use Rattle.std.specs.List.{AllByRecursion}
use Rattle.circuit.specs.Settled.{IsAmong, IsRising}
use Rattle.circuit.proofs.table.Table.blank.Given as goal

abbrev pub invariant-loop-place : goal.invariant-loop-place
invariant-loop-place l = record {
  below : AllByRecursion (λ k. k < l.place) l.unsettled.items;
  rising : IsRising l.unsettled.items;
  complete : (k : ℕ) → k < l.place → IsAmong k l.unsettled.items;
}

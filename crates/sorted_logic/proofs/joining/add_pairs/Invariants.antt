use Rattle.std.proofs.Common.{◌≡◌, ◌<◌, drop, length, map}
use Rattle.std.specs.List.{AllByRecursion}
use Rattle.sorted_logic.specs.Inside.Joins.{moved_by, pair_by, with_pairs}
use Rattle.sorted_logic.proofs.joining.add_pairs.Given as goal

-- the pairs so far are added
abbrev pub invariant-loop-pair : goal.invariant-loop-pair
invariant-loop-pair l = record {
  added : with_pairs l.joined (map (pair_by l.fn.places) (drop l.pair-index l.fn.b.disjoint))
      ≡ with_pairs l.fn.joined (map (pair_by l.fn.places) l.fn.b.disjoint);
  sorts : l.joined.sorts ≡ l.fn.joined.sorts;
  rest : AllByRecursion (λ pair. ((moved_by l.fn.places pair.0).0 < length l.fn.joined.sorts)
      × ((moved_by l.fn.places pair.1).0 < length l.fn.joined.sorts)) (drop l.pair-index l.fn.b.disjoint);
}

use Rattle.std.proofs.Common.{◌≡◌, drop}
use Rattle.std.specs.List.{list_all}
use Rattle.sorted_logic.specs.Finite.{answers}
use Rattle.sorted_logic.specs.Inside.UniverseTests.{are_apart}
use Rattle.sorted_logic.proofs.universe.FiniteUniverse.are_pairs_apart.Given as goal

abbrev pub invariant-loop-pair : goal.invariant-loop-pair
invariant-loop-pair l = list_all (λ pair. are_apart (answers l.self) l.self.size pair.0.0 pair.1.0)
    (drop l.pair-index l.pairs)
    ≡ list_all (λ pair. are_apart (answers l.self) l.self.size pair.0.0 pair.1.0) l.pairs

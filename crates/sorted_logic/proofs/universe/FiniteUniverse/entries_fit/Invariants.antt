use Rattle.std.proofs.Common.{◌≡◌, drop}
use Rattle.sorted_logic.specs.Finite.{answers}
use Rattle.sorted_logic.specs.Inside.UniverseTests.{entries_fit}
use Rattle.sorted_logic.proofs.universe.FiniteUniverse.entries_fit.Given as goal

abbrev pub invariant-loop-entry : goal.invariant-loop-entry
invariant-loop-entry l = entries_fit (answers l.self) l.sorts (drop l.entry-index l.entries)
    ≡ entries_fit (answers l.self) l.sorts l.entries

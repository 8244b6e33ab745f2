use Rattle.std.proofs.Common.{◌≡◌, drop}
use Rattle.sorted_logic.specs.Finite.{answers}
use Rattle.sorted_logic.specs.Inside.UniverseTests.{facts_fit}
use Rattle.sorted_logic.proofs.universe.FiniteUniverse.facts_fit.Given as goal

abbrev pub invariant-loop-fact : goal.invariant-loop-fact
invariant-loop-fact l = facts_fit (answers l.self) l.sorts (drop l.fact-index l.facts)
    ≡ facts_fit (answers l.self) l.sorts l.facts

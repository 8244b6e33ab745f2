use Rattle.std.proofs.Common.{◌≡◌, true}
use Rattle.sorted_logic.specs.Finite.{answers}
use Rattle.sorted_logic.specs.Inside.Evaluation.{all_below}
use Rattle.sorted_logic.specs.Inside.UniverseTests.{values_fit}
use Rattle.sorted_logic.proofs.universe.FiniteUniverse.are_values_fit.Given as goal

abbrev pub invariant-loop-f : goal.invariant-loop-f
invariant-loop-f l = all_below l.f (values_fit (answers l.self) l.self.size l.functions) ≡ true

use Rattle.std.proofs.Common.{◌≡◌, true}
use Rattle.sorted_logic.specs.Finite.{answers}
use Rattle.sorted_logic.specs.Inside.Evaluation.{all_below}
use Rattle.sorted_logic.specs.Inside.UniverseTests.{numbers_fit}
use Rattle.sorted_logic.proofs.universe.FiniteUniverse.are_numbers_fit.Given as goal

abbrev pub invariant-loop-s : goal.invariant-loop-s
invariant-loop-s l = all_below l.s (numbers_fit (answers l.self) l.self.size l.sorts) ≡ true

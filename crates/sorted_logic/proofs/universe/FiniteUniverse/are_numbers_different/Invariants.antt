use Rattle.std.proofs.Common.{◌≡◌, true}
use Rattle.sorted_logic.specs.Finite.{answers}
use Rattle.sorted_logic.specs.Inside.Evaluation.{all_below}
use Rattle.sorted_logic.specs.Inside.UniverseTests.{numbers_differ}
use Rattle.sorted_logic.proofs.universe.FiniteUniverse.are_numbers_different.Given as goal

abbrev pub invariant-loop-s : goal.invariant-loop-s
invariant-loop-s l = all_below l.s (numbers_differ (answers l.self) l.self.size l.sorts) ≡ true

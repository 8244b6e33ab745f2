use Rattle.std.proofs.Common.{◌≡◌, true}
use Rattle.sorted_logic.specs.Finite.{answers}
use Rattle.sorted_logic.specs.Inside.Evaluation.{all_below}
use Rattle.sorted_logic.specs.Inside.UniverseTests.{is_apart_from_earlier}
use Rattle.sorted_logic.proofs.universe.FiniteUniverse.are_roots_apart.Given as goal

abbrev pub invariant-loop-s : goal.invariant-loop-s
invariant-loop-s l = all_below l.s (is_apart_from_earlier (answers l.self) l.self.size l.sorts) ≡ true

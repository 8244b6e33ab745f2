use Rattle.std.proofs.Common.{◌≡◌, true}
use Rattle.sorted_logic.specs.Finite.{answers}
use Rattle.sorted_logic.specs.Inside.Evaluation.{all_below}
use Rattle.sorted_logic.specs.Inside.UniverseTests.{is_in_parent}
use Rattle.sorted_logic.proofs.universe.FiniteUniverse.are_subsorts_inside.Given as goal

abbrev pub invariant-loop-s : goal.invariant-loop-s
invariant-loop-s l = all_below l.s (is_in_parent (answers l.self) l.self.size l.sorts) ≡ true

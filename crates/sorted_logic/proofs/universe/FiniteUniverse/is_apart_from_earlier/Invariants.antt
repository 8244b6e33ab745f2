use Rattle.std.proofs.Common.{◌≡◌, true}
use Rattle.sorted_logic.specs.Finite.{answers}
use Rattle.sorted_logic.specs.Inside.Evaluation.{all_below}
use Rattle.sorted_logic.specs.Inside.UniverseTests.{are_apart_roots}
use Rattle.sorted_logic.proofs.universe.FiniteUniverse.is_apart_from_earlier.Given as goal

abbrev pub invariant-loop-t : goal.invariant-loop-t
invariant-loop-t l = all_below l.t (are_apart_roots (answers l.self) l.self.size l.sorts l.s) ≡ true

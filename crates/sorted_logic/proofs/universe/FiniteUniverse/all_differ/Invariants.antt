use Rattle.std.proofs.Common.{◌≡◌, true}
use Rattle.sorted_logic.specs.Finite.{answers}
use Rattle.sorted_logic.specs.Inside.Evaluation.{all_below}
use Rattle.sorted_logic.specs.Inside.UniverseTests.{differs_from_earlier}
use Rattle.sorted_logic.proofs.universe.FiniteUniverse.all_differ.Given as goal

abbrev pub invariant-loop-e : goal.invariant-loop-e
invariant-loop-e l = all_below l.e (differs_from_earlier (answers l.self) l.s) ≡ true

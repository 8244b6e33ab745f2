use Rattle.std.proofs.Common.{◌≡◌, true}
use Rattle.sorted_logic.specs.Inside.Evaluation.{all_below}
use Rattle.sorted_logic.specs.Inside.UniverseTests.{arguments_fit}
use Rattle.sorted_logic.proofs.universe.FiniteUniverse.are_arguments_fit.Given as goal

abbrev pub invariant-loop-f : goal.invariant-loop-f
invariant-loop-f l = all_below l.f (arguments_fit l.self l.functions) ≡ true

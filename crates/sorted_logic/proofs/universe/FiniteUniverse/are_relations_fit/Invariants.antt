use Rattle.std.proofs.Common.{◌≡◌, true}
use Rattle.sorted_logic.specs.Inside.Evaluation.{all_below}
use Rattle.sorted_logic.specs.Inside.UniverseTests.{relation_fits}
use Rattle.sorted_logic.proofs.universe.FiniteUniverse.are_relations_fit.Given as goal

abbrev pub invariant-loop-r : goal.invariant-loop-r
invariant-loop-r l = all_below l.r (relation_fits l.self l.relations) ≡ true

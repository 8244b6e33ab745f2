use Rattle.std.proofs.Common.{◌≡◌, true, not}
use Rattle.sorted_logic.specs.Finite.{answers}
use Rattle.sorted_logic.specs.Inside.Evaluation.{all_below}
use Rattle.sorted_logic.specs.Inside.UniverseTests.{share_number}
use Rattle.sorted_logic.proofs.universe.FiniteUniverse.differs_from_earlier.Given as goal

abbrev pub invariant-loop-other : goal.invariant-loop-other
invariant-loop-other l = all_below l.other (λ other. not (share_number (answers l.self) l.s l.e other)) ≡ true

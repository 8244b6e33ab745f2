use Rattle.std.proofs.Common.{◌≡◌, true}
use Rattle.sorted_logic.specs.Finite.{answers}
use Rattle.sorted_logic.specs.Inside.UniverseTests.{all_carry}
use Rattle.sorted_logic.proofs.universe.FiniteUniverse.all_carry.Given as goal

abbrev pub invariant-loop-e : goal.invariant-loop-e
invariant-loop-e l = all_carry (answers l.self) l.e l.s l.bits ≡ true

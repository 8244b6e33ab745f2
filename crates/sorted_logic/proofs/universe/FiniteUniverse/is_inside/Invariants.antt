use Rattle.std.proofs.Common.{◌≡◌, true}
use Rattle.sorted_logic.specs.Finite.{answers}
use Rattle.sorted_logic.specs.Inside.UniverseTests.{is_inside}
use Rattle.sorted_logic.proofs.universe.FiniteUniverse.is_inside.Given as goal

abbrev pub invariant-loop-e : goal.invariant-loop-e
invariant-loop-e l = is_inside (answers l.self) l.e l.s l.t ≡ true

use Rattle.std.proofs.Common.{◌≡◌, true}
use Rattle.sorted_logic.specs.Finite.{answers}
use Rattle.sorted_logic.specs.Inside.UniverseTests.{are_apart}
use Rattle.sorted_logic.proofs.universe.FiniteUniverse.are_apart.Given as goal

abbrev pub invariant-loop-e : goal.invariant-loop-e
invariant-loop-e l = are_apart (answers l.self) l.e l.s l.t ≡ true

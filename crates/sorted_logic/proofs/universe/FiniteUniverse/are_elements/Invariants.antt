use Rattle.std.proofs.Common.{◌≡◌, length, drop}
use Rattle.sorted_logic.specs.Finite.{answers}
use Rattle.sorted_logic.specs.Inside.UniverseTests.{are_elements}
use Rattle.sorted_logic.proofs.universe.FiniteUniverse.are_elements.Given as goal

abbrev pub invariant-loop-i : goal.invariant-loop-i
invariant-loop-i l = (length l.sorts ≡ length l.elements)
    × (are_elements (answers l.self) (drop l.i l.sorts) (drop l.i l.elements)
    ≡ are_elements (answers l.self) l.sorts l.elements)

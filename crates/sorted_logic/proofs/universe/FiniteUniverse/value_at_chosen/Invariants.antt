use Rattle.std.proofs.Common.{◌≡◌, drop}
use Rattle.std.specs.Option.{option_or}
use Rattle.sorted_logic.specs.Finite.{row, last_value}
use Rattle.sorted_logic.specs.Inside.Evaluation.{scope}
use Rattle.sorted_logic.proofs.universe.FiniteUniverse.value_at_chosen.Given as goal

abbrev pub invariant-loop-entry : goal.invariant-loop-entry
invariant-loop-entry l = (l.entry-items ≡ row l.self.values l.f)
    × (option_or (last_value (drop l.entry-index l.entry-items) (scope l.chosen)) l.last
    ≡ last_value l.entry-items (scope l.chosen))

use Rattle.std.proofs.Common.{◌≡◌, drop}
use Rattle.std.specs.Option.{option_or}
use Rattle.sorted_logic.specs.Finite.{last_value}
use Rattle.sorted_logic.proofs.elements.last_put.Given as goal

abbrev pub invariant-loop-entry : goal.invariant-loop-entry
invariant-loop-entry l = option_or (last_value (drop l.entry-index l.entries) l.elements) l.last
    ≡ last_value l.entries l.elements

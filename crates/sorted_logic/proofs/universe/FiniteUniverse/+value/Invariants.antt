use Rattle.std.proofs.Common.{◌≡◌, length, option_and_then, drop}
use Rattle.std.specs.Option.{option_or}
use Rattle.std.specs.Str.{bytes_eq}
use Rattle.sorted_logic.specs.Finite.{answers, row, last_value}
use Rattle.sorted_logic.specs.Inside.Evaluation.{scope}
use Rattle.sorted_logic.specs.Trees.{terms_chain}
use Rattle.sorted_logic.specs.Truth.{values_of, passes_of}
use Rattle.sorted_logic.proofs.universe.FiniteUniverse.+value.Given as goal

abbrev pub invariant-have_values-loop-i : goal.invariant-have_values-loop-i
invariant-have_values-loop-i l = (length l.args ≡ length l.values)
    × (passes_of (bytes_eq (drop l.i l.values)) (values_of (answers l.self) (scope l.env) (terms_chain (drop l.i l.args)))
    ≡ passes_of (bytes_eq l.values) (values_of (answers l.self) (scope l.env) (terms_chain l.args)))

abbrev pub invariant-value_at-loop-entry : goal.invariant-value_at-loop-entry
invariant-value_at-loop-entry l = (l.entry-items ≡ row l.self.values l.function)
    × (option_or (option_and_then (last_value (drop l.entry-index l.entry-items))
    (values_of (answers l.self) (scope l.env) (terms_chain l.args))) l.last
    ≡ option_and_then (last_value l.entry-items) (values_of (answers l.self) (scope l.env) (terms_chain l.args)))

use Rattle.std.proofs.Common.{sym}
use Rattle.sorted_logic.proofs.ValuesOfTerms.{other_length}
use Rattle.sorted_logic.proofs.universe.FiniteUniverse.+value.Goals as goal

pub have_values-returns-then-args-values : goal.have_values-returns-then-args-values
have_values-returns-then-args-values t c = sym (other_length _ _ _ _ c.if-args-values.true)

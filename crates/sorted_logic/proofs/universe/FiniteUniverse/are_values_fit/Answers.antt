use Rattle.std.proofs.Common.{◌<◌, length, sym, ◌∙◌, arith}
use Rattle.sorted_logic.proofs.Below.{one_fails}
use Rattle.sorted_logic.proofs.universe.FiniteUniverse.are_values_fit.Goals as goal

pub returns-then-not-values_fit : goal.returns-then-not-values_fit
returns-then-not-values_fit c =
    let below : c.loop-f.f < length c.args.functions.now = omega arith in
    sym (one_fails _ _ c.loop-f.f below (sym c.values_fit.ensures ∙ c.if-not-values_fit.true))

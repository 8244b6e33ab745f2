use Rattle.std.proofs.Common.{◌<◌, length, sym, ◌∙◌, arith}
use Rattle.sorted_logic.proofs.Below.{one_fails}
use Rattle.sorted_logic.proofs.universe.FiniteUniverse.are_arguments_fit.Goals as goal

pub returns-then-not-arguments_fit : goal.returns-then-not-arguments_fit
returns-then-not-arguments_fit c =
    let below : c.loop-f.f < length c.args.functions.now = omega arith in
    sym (one_fails _ _ c.loop-f.f below (sym c.arguments_fit.ensures ∙ c.if-not-arguments_fit.true))

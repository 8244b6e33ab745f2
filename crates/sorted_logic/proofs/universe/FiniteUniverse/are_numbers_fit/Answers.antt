use Rattle.std.proofs.Common.{◌<◌, length, sym, ◌∙◌, arith}
use Rattle.sorted_logic.proofs.Below.{one_fails}
use Rattle.sorted_logic.proofs.universe.FiniteUniverse.are_numbers_fit.Goals as goal

pub returns-then-not-numbers_fit : goal.returns-then-not-numbers_fit
returns-then-not-numbers_fit c =
    let below : c.loop-s.s < length c.args.sorts.now = omega arith in
    sym (one_fails _ _ c.loop-s.s below (sym c.numbers_fit.ensures ∙ c.if-not-numbers_fit.true))

use Rattle.std.proofs.Common.{◌<◌, length, sym, ◌∙◌, arith}
use Rattle.sorted_logic.proofs.Below.{one_fails}
use Rattle.sorted_logic.proofs.universe.FiniteUniverse.are_numbers_different.Goals as goal

pub returns-then-not-numbers_differ : goal.returns-then-not-numbers_differ
returns-then-not-numbers_differ c =
    let below : c.loop-s.s < length c.args.sorts.now = omega arith in
    sym (one_fails _ _ c.loop-s.s below (sym c.numbers_differ.ensures ∙ c.if-not-numbers_differ.true))

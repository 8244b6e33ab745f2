use Rattle.std.proofs.Common.{◌<◌, length, sym, ◌∙◌, arith}
use Rattle.sorted_logic.proofs.Below.{one_fails}
use Rattle.sorted_logic.proofs.universe.FiniteUniverse.are_roots_apart.Goals as goal

pub returns-then-not-is_apart_from_earlier : goal.returns-then-not-is_apart_from_earlier
returns-then-not-is_apart_from_earlier c =
    let below : c.loop-s.s < length c.args.sorts.now = omega arith in
    sym (one_fails _ _ c.loop-s.s below (sym c.is_apart_from_earlier.ensures ∙ c.if-not-is_apart_from_earlier.true))

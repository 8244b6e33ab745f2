use Rattle.std.proofs.Common.{◌<◌, length, sym, ◌∙◌, arith}
use Rattle.sorted_logic.proofs.Below.{one_fails}
use Rattle.sorted_logic.proofs.universe.FiniteUniverse.are_subsorts_inside.Goals as goal

pub returns-then-not-is_in_parent : goal.returns-then-not-is_in_parent
returns-then-not-is_in_parent c =
    let below : c.loop-s.s < length c.args.sorts.now = omega arith in
    sym (one_fails _ _ c.loop-s.s below (sym c.is_in_parent.ensures ∙ c.if-not-is_in_parent.true))

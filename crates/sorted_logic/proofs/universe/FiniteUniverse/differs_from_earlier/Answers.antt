use Rattle.std.proofs.Common.{◌<◌, sym, ◌∙◌, arith}
use Rattle.sorted_logic.proofs.Below.{one_fails, negated}
use Rattle.sorted_logic.proofs.universe.FiniteUniverse.differs_from_earlier.Goals as goal

pub returns-then-share_number : goal.returns-then-share_number
returns-then-share_number c =
    let below : c.loop-other.other < c.args.e = omega arith in
    sym (one_fails _ _ c.loop-other.other below (negated _ (sym c.share_number.ensures ∙ c.if-share_number.true)))

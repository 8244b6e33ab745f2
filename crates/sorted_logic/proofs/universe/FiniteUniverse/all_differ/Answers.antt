use Rattle.std.proofs.Common.{◌<◌, sym, ◌∙◌, arith}
use Rattle.sorted_logic.proofs.Below.{one_fails}
use Rattle.sorted_logic.proofs.universe.FiniteUniverse.all_differ.Goals as goal

pub returns-then-not-differs_from_earlier : goal.returns-then-not-differs_from_earlier
returns-then-not-differs_from_earlier c =
    let below : c.loop-e.e < c.args.self.now.size = rw (← c.self.view_is) (omega arith) in
    sym (one_fails _ _ c.loop-e.e below (sym c.differs_from_earlier.ensures ∙ c.if-not-differs_from_earlier.true))

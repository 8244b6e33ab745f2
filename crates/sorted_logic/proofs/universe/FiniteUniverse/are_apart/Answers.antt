use Rattle.std.proofs.Common.{◌<◌, sym, ◌∙◌, arith}
use Rattle.sorted_logic.proofs.Below.{one_fails, both_at}
use Rattle.sorted_logic.proofs.universe.FiniteUniverse.are_apart.Goals as goal

pub returns-then-has-2 : goal.returns-then-has-2
returns-then-has-2 c =
    let below : c.loop-e.e < c.args.self.now.size = rw (← c.self.view_is) (omega arith) in
    sym (one_fails _ _ c.loop-e.e below (both_at _ _ (sym c.has.ensures ∙ c.if-has.true)
    (sym c.has-then-has.ensures ∙ c.if-has-2.true)))

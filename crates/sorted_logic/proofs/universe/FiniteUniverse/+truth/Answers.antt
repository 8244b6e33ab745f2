use Rattle.std.proofs.Common.{sym, arith, ◌∙◌, ◌<◌}
use Rattle.sorted_logic.proofs.Below.{one_fails, one_passes, fails_at, passes_at}
use Rattle.sorted_logic.proofs.universe.FiniteUniverse.+truth.Goals as goal

pub every_element-returns-then-not-truth : goal.every_element-returns-then-not-truth
every_element-returns-then-not-truth t c =
    let h : c.loop-e.e < c.args.self.now.size = rw (← c.self.view_is) (omega arith) in
    sym (one_fails _ _ c.loop-e.e h (fails_at _ _ (sym c.has.ensures ∙ c.if-has.true)
    (sym c.truth.ensures ∙ c.if-not-truth.true)))

pub some_element-returns-then-truth : goal.some_element-returns-then-truth
some_element-returns-then-truth t c =
    let h : c.loop-e.e < c.args.self.now.size = rw (← c.self.view_is) (omega arith) in
    sym (one_passes _ _ c.loop-e.e h (passes_at _ _ (sym c.has.ensures ∙ c.if-has.true)
    (sym c.truth.ensures ∙ c.if-truth.true)))

use Rattle.std.proofs.Common.{◌<◌, sym, ◌∙◌, arith}
use Rattle.sorted_logic.proofs.Below.{one_fails, fails_at}
use Rattle.sorted_logic.proofs.universe.FiniteUniverse.+choices.Goals as goal

pub each_first_choice-returns-then-not-each_choice : goal.each_first_choice-returns-then-not-each_choice
each_first_choice-returns-then-not-each_choice t c =
    let below : c.loop-e.e < c.args.self.now.size = rw (← c.self.view_is) (omega arith) in
    sym (one_fails _ _ c.loop-e.e below (fails_at _ _ (sym c.has.ensures ∙ c.if-has.true)
    (sym c.each_choice.ensures ∙ c.if-not-each_choice.true)))

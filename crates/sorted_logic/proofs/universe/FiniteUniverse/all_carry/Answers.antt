use Rattle.std.proofs.Common.{◌<◌, sym, ◌∙◌, arith}
use Rattle.sorted_logic.proofs.Below.{one_fails, fails_at}
use Rattle.sorted_logic.proofs.universe.FiniteUniverse.all_carry.Goals as goal

pub returns-then-not-carries_bits : goal.returns-then-not-carries_bits
returns-then-not-carries_bits c =
    let below : c.loop-e.e < c.args.self.now.size = rw (← c.self.view_is) (omega arith) in
    sym (one_fails _ _ c.loop-e.e below (fails_at _ _ (sym c.has.ensures ∙ c.if-has.true)
    (sym c.carries_bits.ensures ∙ c.if-not-carries_bits.true)))

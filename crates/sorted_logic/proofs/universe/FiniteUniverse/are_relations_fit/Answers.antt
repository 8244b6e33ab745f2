use Rattle.std.proofs.Common.{◌<◌, length, sym, ◌∙◌, arith}
use Rattle.sorted_logic.proofs.Below.{one_fails}
use Rattle.sorted_logic.proofs.universe.FiniteUniverse.are_relations_fit.Goals as goal

pub returns-then-not-relation_fits : goal.returns-then-not-relation_fits
returns-then-not-relation_fits c =
    let below : c.loop-r.r < length c.args.relations.now = omega arith in
    sym (one_fails _ _ c.loop-r.r below (sym c.relation_fits.ensures ∙ c.if-not-relation_fits.true))

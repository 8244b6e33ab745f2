use Rattle.std.proofs.Common.{◌<◌, sym, ◌∙◌, arith}
use Rattle.sorted_logic.proofs.Below.{one_fails}
use Rattle.sorted_logic.proofs.universe.FiniteUniverse.is_apart_from_earlier.Goals as goal

pub returns-then-not-are_apart_roots : goal.returns-then-not-are_apart_roots
returns-then-not-are_apart_roots c =
    let below : c.loop-t.t < c.args.s = omega arith in
    sym (one_fails _ _ c.loop-t.t below (sym c.are_apart_roots.ensures ∙ c.if-not-are_apart_roots.true))

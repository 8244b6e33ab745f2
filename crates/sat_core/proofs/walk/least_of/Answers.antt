use Rattle.std.proofs.Common.{◌≡◌, sym, map, Some, true}
use Rattle.std.proofs.lemmas.List.{length-set}
use Rattle.cnf.specs.Clauses.{all_hold}
use Rattle.sat_core.proofs.Forcing.{goes_on, least}
use Rattle.sat_core.proofs.walk.least_of.Goals as goal

pub loop-place-preserved : goal.loop-place-preserved
loop-place-preserved c = record {
  count = rw (c.set_true.ensures, length-set) c.loop-place.invariant.count;
  forces = rw c.set_true.ensures (goes_on c.args.store.now c.loop-place.table c.loop-place.floor c.floor_after-floor.result _ _ c.loop-place.invariant.forces c.if-not-may_follow.ensures c.floor_after-floor.ensures.decided c.floor_after-floor.ensures.forced);
}

pub returns-then-holds : goal.returns-then-holds
returns-then-holds c =
    let full : c.loop-place.table ≡ map Some c.in-Some.values.items = rw c.in-Some.is at c.in_ok-values.ensures in
    let holds : all_hold c.in-Some.values.items c.args.store.now.clauses ≡ true = simp (c.as_slice.ensures.value, c.cnf-2.ensures) at (sym c.if-holds.ensures) in
    least c.args.store.now c.loop-place.table c.loop-place.floor c.in-Some.values.items c.loop-place.invariant.forces full c.loop-place.invariant.count holds

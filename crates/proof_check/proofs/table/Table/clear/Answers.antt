use Rattle.std.proofs.Common.{◌≡◌, ◌<◌, ◌-◌, ◌+◌, length, arith}
use Rattle.std.proofs.lemmas.List.{length-set, get_or_read}
use Rattle.proof_check.proofs.Trails.{IsReleasing-next, IsTrail-end}
use Rattle.proof_check.proofs.table.Table.clear.Goals as goal

pub invariant_of-self : goal.invariant_of-self
invariant_of-self c =
    let inside = c.loop-self.self-inside in
    IsTrail-end inside.values.items inside.trail.items inside.count c.loop-self.invariant.releasing (omega arith)

pub loop-self-preserved : goal.loop-self-preserved
loop-self-preserved c =
    let inside = c.loop-self.self-inside in
    let next : inside.count ≡ (inside.count - 1) + 1 = omega (arith, c.loop-self-test.true) in
    let place : inside.count - 1 < length inside.trail.items = omega (arith, c.loop-self.invariant.releasing.within, next) in
    record {
      releasing = IsReleasing-next inside.values.items inside.trail.items inside.count (inside.count - 1) c.index-var.result.now c.loop-self.invariant.releasing next (get_or_read inside.trail.items (inside.count - 1) c.index-var.result.now place c.index-var.ensures 0);
      len = rw length-set c.loop-self.invariant.len;
    }

use Rattle.std.proofs.Common.{◌<◌, length, rules}
use Rattle.proof_check.proofs.Trails.{place_left, IsTrail-set}
use Rattle.proof_check.proofs.table.Table.set.Goals as goal

pub index_mut-requires : goal.index_mut-requires
index_mut-requires c =
    let inside = c.self.inside in
    let place : inside.count < length inside.trail.items = place_left inside.values.items inside.trail.items inside.count c.args.var c.self.invariant (rw c.self.view_is c.requires.in_range) (rw c.self.view_is c.requires.free) in
    search rules

pub invariant_of-self : goal.invariant_of-self
invariant_of-self c =
    let inside = c.self.inside in
    IsTrail-set inside.values.items inside.trail.items inside.count c.args.var c.args.value c.self.invariant (rw c.self.view_is c.requires.in_range) (rw c.self.view_is c.requires.free)

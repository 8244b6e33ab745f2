use Rattle.std.proofs.Common.{◌≡◌, length, replicate, None, Option, Bool, rules}
use Rattle.proof_check.proofs.Trails.{IsTrail-new}
use Rattle.proof_check.proofs.table.Table.new.Goals as goal

pub invariant_of-result : goal.invariant_of-result
invariant_of-result c =
    let blank : c.in_ok-values.values.items ≡ replicate {A = Option Bool} c.args.vars None = search rules in
    let places : length c.in_ok-trail.trail.items ≡ c.args.vars = search rules in
    rw blank (IsTrail-new c.args.vars c.in_ok-trail.trail.items places)

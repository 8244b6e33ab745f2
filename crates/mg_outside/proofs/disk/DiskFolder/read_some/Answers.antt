use Rattle.std.proofs.Common.{◌≡◌, ◌+◌, ◌-◌, ◌^◌, ◌<◌, min, rules}
use Rattle.mg_outside.proofs.Counts.{Counted-min}
use Rattle.mg_outside.proofs.disk.DiskFolder.read_some.Goals as goal

pub returns-clause-given : goal.returns-clause-given
returns-clause-given g c =
    let small : c.args.self.now.given < 2 ^ 64 = search rules in
    let sum : c.saturating_add-self-inside.result ≡ min (c.args.self.now.given + c.in_ok-count.count) (2 ^ 64 - 1) = search rules in
    rw sum (Counted-min c.in_ok-count.count c.args.self.now.given small)

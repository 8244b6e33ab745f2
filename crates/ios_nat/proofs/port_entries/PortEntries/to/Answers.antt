use Rattle.std.proofs.Common.{◌∙◌}
use Rattle.ios_nat.proofs.port_entries.PortEntries.to.Goals as goal

pub returns : goal.returns
returns c =
    rw (← c.self.view_is)
    (c.copied.ensures ∙ c.get.ensures.value ∙ c.self.invariant.locals_found (record { proto = c.args.proto; address = c.args.address; port = c.args.port }))

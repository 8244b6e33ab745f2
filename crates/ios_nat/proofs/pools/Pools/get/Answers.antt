use Rattle.std.proofs.Common.{◌∙◌, sym}
use Rattle.std.specs.Str.{bytes_eq}
use Rattle.ios_nat.proofs.PoolNames.{lookup_renamed}
use Rattle.ios_nat.proofs.pools.Pools.get.Goals as goal

pub returns : goal.returns
returns c =
    rw (← c.self.view_is)
    (c.copied.ensures ∙ c.get.ensures.value ∙ sym (lookup_renamed (λ key. key.items) (bytes_eq c.args.name.now) c.self.inside.ranges.entries))

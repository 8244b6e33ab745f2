use Rattle.std.proofs.Common.{◌≡◌, map}
use Rattle.certificates.specs.declared.derivation.Item.TheVariants as item
use Rattle.sat_core.proofs.split.items_of.Given as goal

abbrev pub invariant-loop-step : goal.invariant-loop-step
invariant-loop-step l = l.items.items ≡ map item.Add l.yielded

use Rattle.std.proofs.Common.{◌≡◌, take}
use Rattle.ios_route.specs.ActiveRoutes as specs
use Rattle.ios_route.proofs.connected.connected.Given as goal

abbrev pub invariant-loop-interface : goal.invariant-loop-interface
invariant-loop-interface l = l.routes.items ≡ specs.connected (take l.interface-index l.interfaces)

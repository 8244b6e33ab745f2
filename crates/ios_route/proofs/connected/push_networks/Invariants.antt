use Rattle.std.proofs.Common.{◌≡◌, ◌++◌, map, take}
use Rattle.ios_route.specs.ActiveRoutes.{connected_route}
use Rattle.ios_route.proofs.connected.push_networks.Given as goal

abbrev pub invariant-loop-address : goal.invariant-loop-address
invariant-loop-address l = l.routes.items ≡ l.initial.routes.items ++ map (connected_route l.interface) (take l.address-index l.address-items)

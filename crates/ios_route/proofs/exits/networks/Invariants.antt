use Rattle.std.proofs.Common.{◌≡◌, map, take}
use Rattle.ios_route.specs.Exits.{network_exit}
use Rattle.ios_route.proofs.exits.networks.Given as goal

abbrev pub invariant-loop-route : goal.invariant-loop-route
invariant-loop-route l = l.networks.items ≡ map network_exit (take l.route-index l.connected)

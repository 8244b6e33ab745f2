use Rattle.std.proofs.Common.{List}
use Rattle.ios_route.specs.Interfaces.{Interface}
use Rattle.ios_route.specs.ActiveRoutes.{connected}
use Rattle.ios_route.specs.Exits.{AreExits}
use Rattle.ios_route.proofs.TowardsHops.{AreSearched}
use Rattle.ios_route.proofs.exits.Exits.towards.Given as goal

abbrev pub invariant-loop-zeros : goal.invariant-loop-zeros
invariant-loop-zeros l = (interfaces : List Interface) → AreExits interfaces l.self → AreSearched l.hop l.zeros (connected interfaces)

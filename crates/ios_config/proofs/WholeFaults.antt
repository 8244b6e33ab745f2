-- The tests of the whole that fail.
use Rattle.std.proofs.Common.{◌≡◌, List, ◌∷◌}
use Rattle.ios_lex.specs.declared.reason.IosReason.TheVariants as ios
use Rattle.ios_route.specs.Faults.{IsFirst}
use Rattle.ios_route.specs.declared.routes.RouteFault.{RouteFault}
use Rattle.ios_route.specs.declared.routes.RouteFault.TheVariants as route_fault
use Rattle.ios_config.specs.Reading.{route_faults}
use Rattle.ios_config.specs.Router.{Draft}
use Rattle.ios_config.specs.Taking.{IsWholeFault, of_route}
use Rattle.ios_config.specs.Whole.{IsRouteRefusal}

first_fault : (draft : Draft) (fault : RouteFault) (more : List RouteFault) → route_faults draft ≡ fault ∷ more → IsWholeFault draft (of_route fault)
first_fault draft (route_fault.NextHopNotConnected line) more is = IsWholeFault.route (route_fault.NextHopNotConnected line) more line ios.NextHopNotConnected is (IsRouteRefusal.not_connected line)
first_fault draft (route_fault.UnknownInterface line) more is = IsWholeFault.route (route_fault.UnknownInterface line) more line ios.UnknownInterface is (IsRouteRefusal.unknown line)
first_fault draft route_fault.NoMemory more is = IsWholeFault.memory

pub whole_route_fault : (draft : Draft) (fault : RouteFault) → IsFirst (route_faults draft) fault → IsWholeFault draft (of_route fault)
whole_route_fault draft fault (IsFirst.first one more is) = first_fault draft fault more is
whole_route_fault draft fault IsFirst.memory = IsWholeFault.memory

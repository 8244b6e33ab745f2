use Rattle.std.proofs.Common.{◌≡◌, [], take}
use Rattle.ios_route.specs.ActiveRoutes.{active_routes}
use Rattle.ios_route.specs.Faults.{faults}
use Rattle.ios_route.proofs.routes.Routes.new.Given as goal

abbrev pub invariant-loop-route : goal.invariant-loop-route
invariant-loop-route l =
    (l.active.items ≡ active_routes l.interfaces (take l.route-index l.routes))
    × (faults l.interfaces (take l.route-index l.routes) ≡ [])

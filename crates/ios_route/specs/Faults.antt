-- Static routes that lead nowhere.
use Rattle.std.specs.Prelude.{◌≡◌, ℕ, List, ◌∷◌, Option, Some, None}
use Rattle.std.specs.List.{filter_map}
use Rattle.std.specs.Option.{option_map_or}
use Rattle.ios_route.specs.Interfaces.{Interface}
use Rattle.ios_route.specs.declared.routes.RouteFault.{RouteFault}
use Rattle.ios_route.specs.declared.routes.RouteFault.TheVariants as fault
use Rattle.ios_route.specs.declared.static_route.RouteExit.{RouteExit}
use Rattle.ios_route.specs.declared.static_route.RouteExit.TheVariants as exit
use Rattle.ios_route.specs.declared.static_route.StaticRoute.{StaticRoute}
use Rattle.ios_route.specs.ActiveRoutes.{exit_towards, named}

abbrev pub fault_towards : List Interface → ℕ → RouteExit → Option RouteFault
fault_towards interfaces line (exit.Hop hop) =
    option_map_or (λ _. None) (exit_towards interfaces hop) (Some (fault.NextHopNotConnected line))
fault_towards interfaces line (exit.Out name hop) =
    option_map_or (λ _. None) (named interfaces name) (Some (fault.UnknownInterface line))
fault_towards interfaces line exit.Null = None

-- the fault of a static route, where it has one
abbrev pub fault_of : List Interface → StaticRoute → Option RouteFault
fault_of interfaces route = fault_towards interfaces route.line route.exit

-- those of all static routes, in their order
abbrev pub faults : List Interface → List StaticRoute → List RouteFault
faults interfaces routes = filter_map (fault_of interfaces) routes

-- the fault is the first of these; memory may be wanting at any time
pub data IsFirst (all : List RouteFault) : RouteFault → Type 0 where
  first : (one : RouteFault) (more : List RouteFault) → all ≡ one ∷ more → IsFirst all one
  memory : IsFirst all fault.NoMemory

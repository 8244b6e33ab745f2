-- Which routes are active (Cisco IOS command references, `ip address`, `shutdown` and `ip route`).
use Rattle.std.specs.Prelude.{ℕ, ◌≤◌, ◌++◌, List, [], map, Option, Some, None, cond}
use Rattle.std.specs.List.{AllByRecursion, filter_map, find, flat_map}
use Rattle.std.specs.Option.{option_and_then}
use Rattle.std.specs.Str.{bytes_eq}
use Rattle.ios_route.specs.Interfaces.{Interface}
use Rattle.ios_route.specs.declared.routes.Active.{Active}
use Rattle.ios_route.specs.declared.static_route.RouteExit.{RouteExit}
use Rattle.ios_route.specs.declared.static_route.RouteExit.TheVariants as exit
use Rattle.ios_route.specs.declared.static_route.StaticRoute.{StaticRoute}
use Rattle.ios_route.specs.Best.{is_best}
use Rattle.ios_route.specs.Networks.{network}

-- a mask of 32 bits has at most 32 ones
abbrev pub IsLength : ℕ → Type 0
IsLength len = len ≤ 32

abbrev pub AreLengths : Interface → Type 0
AreLengths interface =
    AllByRecursion (λ (address : ℕ × ℕ). IsLength address.1) interface.addresses

-- the route to the network of an address of an interface
abbrev pub connected_route : Interface → ℕ × ℕ → Active
connected_route interface address = record {
  prefix = network address.1 address.0;
  len = address.1;
  distance = 0;
  exit = Some interface.number;
  hop = None;
}

-- an interface that is shut down has none
abbrev pub connected_routes : Interface → List Active
connected_routes interface =
    cond interface.shut [] (map (connected_route interface) interface.addresses)

-- those of all interfaces, in their order
abbrev pub connected : List Interface → List Active
connected interfaces = flat_map connected_routes interfaces

-- the first interface of a name
abbrev pub named : List Interface → List ℕ → Option Interface
named interfaces name = find (λ (interface : Interface). bytes_eq name interface.name) interfaces

-- the interface in whose network a next hop lies: the first of the longest such networks
abbrev pub exit_towards : List Interface → ℕ → Option ℕ
exit_towards interfaces hop =
    option_and_then (λ (route : Active). route.exit)
    (find (is_best (connected interfaces) hop) (connected interfaces))

-- the static route, out of this interface and to this next hop
abbrev pub leading : StaticRoute → Option ℕ → Option ℕ → Active
leading route out hop = record {
  prefix = route.prefix;
  len = route.len;
  distance = route.distance;
  exit = out;
  hop = hop;
}

-- out of an interface that is not shut down
abbrev pub out_of : StaticRoute → Option ℕ → Interface → Option Active
out_of route hop interface =
    cond interface.shut None (Some (leading route (Some interface.number) hop))

abbrev pub active_towards : List Interface → StaticRoute → RouteExit → Option Active
active_towards interfaces route (exit.Hop hop) =
    option_and_then (λ out. Some (leading route (Some out) (Some hop)))
    (exit_towards interfaces hop)
active_towards interfaces route (exit.Out name hop) =
    option_and_then (out_of route hop) (named interfaces name)
active_towards interfaces route exit.Null = Some (leading route None None)

-- a static route as an active one, where it is one
abbrev pub active_static : List Interface → StaticRoute → Option Active
active_static interfaces route = active_towards interfaces route route.exit

-- the networks of interfaces, and then the static routes
abbrev pub active_routes : List Interface → List StaticRoute → List Active
active_routes interfaces routes =
    connected interfaces ++ filter_map (active_static interfaces) routes

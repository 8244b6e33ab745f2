-- The best routes of an address.
use Rattle.std.specs.Prelude.{ℕ, Bool, ◌&&◌, ◌||◌, ◌==◌, not, nat_lt, List, map}
use Rattle.std.specs.List.{filter, list_any}
use Rattle.std.specs.Option.{unwrap_or}
use Rattle.ios_route.specs.declared.best.Choice.{Choice}
use Rattle.ios_route.specs.declared.routes.Active.{Active}
use Rattle.ios_route.specs.Networks.{in_one_network}

-- the prefix of the route has the address
abbrev pub covers : ℕ → Active → Bool
covers address route = in_one_network route.len address route.prefix

-- a longer prefix, or one as long and a smaller distance
abbrev pub is_better : Active → Active → Bool
is_better route other =
    nat_lt other.len route.len || (route.len == other.len && nat_lt route.distance other.distance)

-- the route is for the address, and none of these that is for it is better
abbrev pub is_best : List Active → ℕ → Active → Bool
is_best routes address route =
    covers address route
    && not (list_any (λ other. covers address other && is_better other route) routes)

-- where a packet goes by the route: to the next hop that is written, or to its own address
abbrev pub choice_by : ℕ → Active → Choice
choice_by address route = record { exit = route.exit; next_hop = unwrap_or route.hop address }

-- what the best routes say, in their order
abbrev pub best_choices : List Active → ℕ → List Choice
best_choices routes address = map (choice_by address) (filter (is_best routes address) routes)

-- What is looked up for static routes: the first interface of each name, and the first interface of each network. Private calls are
-- stated by it, and no public one.
use Rattle.std.specs.Prelude.{◌≡◌, ℕ, ◌&&◌, ◌==◌, nat_eq, Bool, List, Option}
use Rattle.std.specs.Borrow.{Bor}
use Rattle.std.specs.Cmp.Lexicographic.{pointwise}
use Rattle.std.specs.HashMap.{get}
use Rattle.std.specs.List.{find}
use Rattle.std.specs.Option.{option_map}
use Rattle.ios_route.specs.declared.exits.Exits.{Exits}
use Rattle.ios_route.specs.declared.exits.Outlet.{Outlet}
use Rattle.ios_route.specs.Interfaces.{Interface}
use Rattle.ios_route.specs.declared.routes.Active.{Active}
use Rattle.ios_route.specs.ActiveRoutes.{connected, named}
use Rattle.ios_route.specs.Networks.{first_bits}

abbrev pub outlet : Interface → Outlet
outlet interface = record { number = interface.number; shut = interface.shut }

-- the route is to the network of this length with these first bits
abbrev pub leads_to : ℕ × ℕ → Active → Bool
leads_to network route = network.0 == route.len && network.1 == first_bits route.len route.prefix

abbrev pub same_network : ℕ × ℕ → ℕ × ℕ → Bool
same_network network other = network.0 == other.0 && network.1 == other.1

abbrev pub same_name : Bor (List ℕ) → Bor (List ℕ) → Bool
same_name name other = pointwise nat_eq name.now other.now

-- the name of an interface beside what routes need of it
abbrev pub named_outlet : Interface → List ℕ × Outlet
named_outlet interface = (interface.name, outlet interface)

-- the network of a route beside its interface
abbrev pub network_exit : Active → (ℕ × ℕ) × Option ℕ
network_exit route = ((route.len, first_bits route.len route.prefix), route.exit)

pub record AreExits (interfaces : List Interface) (exits : Exits) : Type 0 where
  pub outlets : (name : Bor (List ℕ))
      → get same_name exits.outlets name ≡ option_map outlet (named interfaces name.now)
  pub networks : (network : ℕ × ℕ)
      → get same_network exits.networks network
      ≡ option_map (λ (route : Active). route.exit)
      (find (leads_to network) (connected interfaces))

-- What is found in the tables of exits.
use Rattle.std.proofs.Common.{◌≡◌, ℕ, Bool, true, false, cond, List, [], ◌∷◌, map, Option, Some, None, refl, ap}
use Rattle.std.specs.Borrow.{Bor}
use Rattle.std.specs.List.{find}
use Rattle.std.specs.Map.{lookup}
use Rattle.std.specs.Option.{option_map}
use Rattle.std.specs.Str.{bytes_eq}
use Rattle.ios_route.specs.declared.exits.Outlet.{Outlet}
use Rattle.ios_route.specs.Interfaces.{Interface}
use Rattle.ios_route.specs.declared.routes.Active.{Active}
use Rattle.ios_route.specs.ActiveRoutes.{named}
use Rattle.ios_route.specs.Exits.{leads_to, named_outlet, network_exit, outlet, same_name, same_network}

-- an option under a choice
map_cond : {X Y : Type 0} (f : X → Y) (b : Bool) (x : X) (other : Option X) (found : Option Y) → found ≡ option_map f other → cond b (Some (f x)) found ≡ option_map f (cond b (Some x) other)
map_cond f true x other found same = refl
map_cond f false x other found same = same

pub found_name : (name : Bor (List ℕ)) (names : List (Bor (List ℕ) × Outlet)) (interfaces : List Interface)
    → map (λ (entry : Bor (List ℕ) × Outlet). (entry.0.now, entry.1)) names ≡ map named_outlet interfaces → lookup (same_name name) names ≡ option_map outlet (named interfaces name.now)
found_name name [] [] same = refl
found_name name [] (interface ∷ interfaces) same = absurd (cc)
found_name name (entry ∷ names) [] same = absurd (cc)
found_name name (entry ∷ names) (interface ∷ interfaces) same =
    let first : (entry.0.now, entry.1) ≡ named_outlet interface = cc in
    let key : entry.0.now ≡ interface.name = ap (λ (e : List ℕ × Outlet). e.0) first in
    let value : entry.1 ≡ outlet interface = ap (λ (e : List ℕ × Outlet). e.1) first in
    rw (key, value) (map_cond outlet (bytes_eq name.now interface.name) interface (named interfaces name.now) (lookup (same_name name) names) (found_name name names interfaces (cc)))

pub found_network : (network : ℕ × ℕ) (routes : List Active) → lookup (same_network network) (map network_exit routes) ≡ option_map (λ (route : Active). route.exit) (find (leads_to network) routes)
found_network network [] = refl
found_network network (route ∷ routes) =
    map_cond (λ (r : Active). r.exit) (leads_to network route) route (find (leads_to network) routes) (lookup (same_network network) (map network_exit routes)) (found_network network routes)

pub none_mapped : {X Y : Type 0} (f : X → Y) (found : Option X) → option_map f found ≡ None → found ≡ None
none_mapped f None is = refl
none_mapped f (Some x) is = absurd (cc)

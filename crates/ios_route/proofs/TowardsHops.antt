-- A next hop lies in the longest of the networks of interfaces that have it.
use Rattle.std.proofs.Common.{◌≡◌, ◌⊎◌, inl, inr, ℕ, ◌<◌, ◌≤◌, Bool, true, false, ◌&&◌, ◌==◌, nat_lt, cond, ◌+◌, ◌-◌, ◌++◌, List, [], ◌∷◌, map, Option, Some, None, refl, ap, sym, subst, ◌∙◌, arith}
use Rattle.std.specs.List.{AllByRecursion, find, list_any}
use Rattle.std.proofs.lemmas.Bool.{and_from, and_parts, or_from, or_left, or_parts, or_right}
use Rattle.std.proofs.lemmas.Bool.Decides.{nat_tests}
use Rattle.std.specs.Option.{option_and_then, option_map}
use Rattle.ios_route.specs.Interfaces.{Interface}
use Rattle.ios_route.specs.declared.routes.Active.{Active}
use Rattle.ios_route.specs.ActiveRoutes.{AreLengths, connected, connected_route, connected_routes, exit_towards}
use Rattle.ios_route.specs.Best.{covers, is_best, is_better}
use Rattle.ios_route.specs.Exits.{leads_to}
use Rattle.ios_route.specs.Networks.{first_bits}
use Rattle.ios_route.proofs.BestRanks.{some_of_more}

-- the route of a network of an interface
abbrev pub IsNear : Active → Type 0
IsNear route = (route.distance ≡ 0) × (route.len ≤ 32)

-- the network of this length that has the hop
abbrev pub around : ℕ → ℕ → ℕ × ℕ
around hop len = (len, first_bits len hop)

-- the network of a longer mask has none of the routes
abbrev pub IsLongest : ℕ → ℕ → List Active → Type 0
IsLongest hop len routes = (other : ℕ) → len < other → other ≤ 32 → list_any (leads_to (around hop other)) routes ≡ false

-- a route whose prefix has the hop leads to the network of its own length
covers_around : (hop len : ℕ) (route : Active) → (len == route.len) ≡ true → leads_to (around hop len) route ≡ covers hop route
covers_around hop len route same =
    let is : len ≡ route.len = grind (arith, nat_tests, same) in
    subst (λ n. leads_to (around hop n) route ≡ covers hop route) (sym is) (own (route.len == route.len) (grind (arith, nat_tests)))
  where
    own : (b : Bool) → b ≡ true → (b && (first_bits route.len hop == first_bits route.len route.prefix)) ≡ covers hop route
    own true is = refl
    own false is = absurd (cc)

covers_itself : (hop : ℕ) (route : Active) → covers hop route ≡ true → leads_to (around hop route.len) route ≡ true
covers_itself hop route is = covers_around hop route.len route (grind (arith, nat_tests)) ∙ is

-- a first route that has the hop and is longer is to a longer network
not_longer : (hop len : ℕ) (first : Active) (routes : List Active) → first.len ≤ 32 → IsLongest hop len (first ∷ routes) → covers hop first ≡ true → nat_lt len first.len ≡ false
not_longer hop len first routes within longest is = by_case (nat_lt len first.len) refl
  where
    by_case : (b : Bool) → nat_lt len first.len ≡ b → nat_lt len first.len ≡ false
    by_case false short = short
    by_case true long =
        let none = or_parts (leads_to (around hop first.len) first) (list_any (leads_to (around hop first.len)) routes) (longest first.len (grind (arith, nat_tests, long)) within) in
        let some = covers_itself hop first is in absurd (cc)

longest_behind : (hop len : ℕ) (first : Active) (routes : List Active) → IsLongest hop len (first ∷ routes) → IsLongest hop len routes
longest_behind hop len first routes longest other longer within =
    (or_parts (leads_to (around hop other) first) (list_any (leads_to (around hop other)) routes) (longest other longer within)).1

not_better : (first route : Active) → first.distance ≡ 0 → route.distance ≡ 0 → nat_lt route.len first.len ≡ false → is_better first route ≡ false
not_better first route near same short = rw (near, same, short) (neither (first.len == route.len))
  where
    neither : (b : Bool) → (b && nat_lt 0 0) ≡ false
    neither true = refl
    neither false = refl

-- of the routes of networks none is better for the hop than one to the longest network
none_better : (hop len : ℕ) (route : Active) (routes : List Active) → route.distance ≡ 0 → route.len ≡ len → AllByRecursion IsNear routes → IsLongest hop len routes
    → list_any (λ other. covers hop other && is_better other route) routes ≡ false
none_better hop len route [] near same all longest = refl
none_better hop len route (first ∷ routes) near same all longest =
    or_from (covers hop first && is_better first route) (list_any (λ other. covers hop other && is_better other route) routes)
    (by_case (covers hop first) refl)
    (none_better hop len route routes near same all.1 (longest_behind hop len first routes longest))
  where
    by_case : (b : Bool) → covers hop first ≡ b → (covers hop first && is_better first route) ≡ false
    by_case false is = rw is refl
    by_case true is =
        let short : nat_lt route.len first.len ≡ false = rw same (not_longer hop len first routes all.0.1 longest is) in
        rw (is, not_better first route all.0.0 near short) refl

-- a longer route is better
longer_is_better : (len : ℕ) (other route : Active) → (len == other.len) ≡ true → nat_lt len route.len ≡ false → (len == route.len) ≡ false → is_better other route ≡ true
longer_is_better len other route same short apart = grind (arith, nat_tests)

-- a route of all of them is a best one for the hop exactly where it is to the longest network
best_alike : (hop len : ℕ) (all : List Active) (route : Active) → route.distance ≡ 0 → nat_lt len route.len ≡ false ⊎ (covers hop route ≡ false)
    → AllByRecursion IsNear all → IsLongest hop len all → list_any (leads_to (around hop len)) all ≡ true → is_best all hop route ≡ leads_to (around hop len) route
best_alike hop len all route near short nears longest some = by_case (covers hop route) (len == route.len) refl refl
  where
    apart : (b : Bool) → (len == route.len) ≡ b → covers hop route ≡ false → leads_to (around hop len) route ≡ false
    apart true same fails = covers_around hop len route same ∙ fails
    apart false same fails = rw same refl

    of_length : (len == route.len) ≡ true → list_any (λ other. covers hop other && is_better other route) all ≡ false
    of_length same = none_better hop len route all near (grind (arith, nat_tests, same)) nears longest

    shorter : covers hop route ≡ true → (len == route.len) ≡ false → list_any (λ other. covers hop other && is_better other route) all ≡ true
    shorter is same = some_of_more (leads_to (around hop len)) (λ other. covers hop other && is_better other route)
        (λ other leads.
        let parts = and_parts (len == other.len) (first_bits len hop == first_bits other.len other.prefix) leads in
        and_from (covers hop other) (is_better other route) (sym (covers_around hop len other parts.0) ∙ leads)
        (longer_is_better len other route parts.0 (not_long short is) same)) all some
      where
        not_long : nat_lt len route.len ≡ false ⊎ (covers hop route ≡ false) → covers hop route ≡ true → nat_lt len route.len ≡ false
        not_long (inl short) is = short
        not_long (inr fails) is = absurd (cc)

    by_case : (b d : Bool) → covers hop route ≡ b → (len == route.len) ≡ d → is_best all hop route ≡ leads_to (around hop len) route
    by_case false d fails same = rw (fails, apart (len == route.len) refl fails) refl
    by_case true true is same = rw (covers_around hop len route same, is, of_length same) refl
    by_case true false is same = rw (is, same, shorter is same) refl

-- so the first best route is the first one to that network
best_found : (hop len : ℕ) (all routes : List Active) → AllByRecursion IsNear all → IsLongest hop len all → list_any (leads_to (around hop len)) all ≡ true
    → AllByRecursion IsNear routes → IsLongest hop len routes → find (is_best all hop) routes ≡ find (leads_to (around hop len)) routes
best_found hop len all [] nears longest some near long = refl
best_found hop len all (route ∷ routes) nears longest some near long =
    rw (
      best_alike hop len all route near.0.0 (short (covers hop route) refl) nears longest some,
      best_found hop len all routes nears longest some near.1 (longest_behind hop len route routes long),
    ) refl
  where
    short : (b : Bool) → covers hop route ≡ b → nat_lt len route.len ≡ false ⊎ (covers hop route ≡ false)
    short true is = inl (not_longer hop len route routes near.0.1 long is)
    short false fails = inr fails

find_some : {X : Type 0} (p : X → Bool) (xs : List X) (x : X) → find p xs ≡ Some x → list_any p xs ≡ true
find_some p [] x is = absurd (cc)
find_some p (y ∷ ys) x is = by_case (p y) refl (λ later. find_some p ys x later)
  where
    by_case : (b : Bool) → p y ≡ b → (find p ys ≡ Some x → list_any p ys ≡ true) → list_any p (y ∷ ys) ≡ true
    by_case true holds more = or_left (p y) (list_any p ys) holds
    by_case false fails more = or_right (p y) (list_any p ys) (more (rw fails at is))

find_none : {X : Type 0} (p : X → Bool) (xs : List X) → find p xs ≡ None → list_any p xs ≡ false
find_none p [] is = refl
find_none p (y ∷ ys) is = by_case (p y) refl (λ later. find_none p ys later)
  where
    by_case : (b : Bool) → p y ≡ b → (find p ys ≡ None → list_any p ys ≡ false) → list_any p (y ∷ ys) ≡ false
    by_case true holds more = absurd (let found : Some y ≡ None = rw holds at is in cc)
    by_case false fails more = or_from (p y) (list_any p ys) fails (more (rw fails at is))

pub longest_found : (hop len : ℕ) (routes : List Active) (route : Active) → AllByRecursion IsNear routes → IsLongest hop len routes → find (leads_to (around hop len)) routes ≡ Some route
    → find (is_best routes hop) routes ≡ Some route
longest_found hop len routes route nears longest found =
    best_found hop len routes routes nears longest (find_some (leads_to (around hop len)) routes route found) nears longest ∙ found

-- where no network has the hop, no route is best
pub none_found : (hop : ℕ) (all routes : List Active) → AllByRecursion IsNear routes → ((len : ℕ) → len ≤ 32 → list_any (leads_to (around hop len)) routes ≡ false) → find (is_best all hop) routes ≡ None
none_found hop all [] nears none = refl
none_found hop all (route ∷ routes) nears apart = by_case (covers hop route) refl (none_found hop all routes nears.1 behind)
  where
    behind : (len : ℕ) → len ≤ 32 → list_any (leads_to (around hop len)) routes ≡ false
    behind len within = (or_parts (leads_to (around hop len) route) (list_any (leads_to (around hop len)) routes) (apart len within)).1

    by_case : (b : Bool) → covers hop route ≡ b → find (is_best all hop) routes ≡ None → find (is_best all hop) (route ∷ routes) ≡ None
    by_case false fails later = rw fails later
    by_case true is later =
        let parts = or_parts (leads_to (around hop route.len) route) (list_any (leads_to (around hop route.len)) routes) (apart route.len nears.0.1) in
        let some = covers_itself hop route is in absurd (cc)

-- the networks of all lengths from the longest on, so many of them, have none of the routes
abbrev pub AreSearched : ℕ → ℕ → List Active → Type 0
AreSearched hop many routes = (len : ℕ) → len ≤ 32 → 32 < len + many → list_any (leads_to (around hop len)) routes ≡ false

pub search_more : (hop many : ℕ) (routes : List Active) → AreSearched hop many routes → find (leads_to (around hop (32 - many))) routes ≡ None → AreSearched hop (many + 1) routes
search_more hop many routes searched none len within behind = by_case (len == 32 - many) refl
  where
    by_case : (b : Bool) → (len == 32 - many) ≡ b → list_any (leads_to (around hop len)) routes ≡ false
    by_case true same =
        let is : len ≡ 32 - many = grind (arith, nat_tests, same) in
        subst (λ n. list_any (leads_to (around hop n)) routes ≡ false) (sym is) (find_none (leads_to (around hop (32 - many))) routes none)
    by_case false apart = searched len within (grind (arith, nat_tests, apart, behind, within))

-- the routes of the networks of interfaces
near_routes : (interface : Interface) (addresses : List (ℕ × ℕ)) → AllByRecursion (λ (address : ℕ × ℕ). address.1 ≤ 32) addresses → AllByRecursion IsNear (map (connected_route interface) addresses)
near_routes interface [] lengths = tt
near_routes interface (address ∷ addresses) lengths = ((refl, lengths.0), near_routes interface addresses lengths.1)

near_all : (xs ys : List Active) → AllByRecursion IsNear xs → AllByRecursion IsNear ys → AllByRecursion IsNear (xs ++ ys)
near_all [] ys near more = more
near_all (x ∷ xs) ys near more = (near.0, near_all xs ys near.1 more)

near_of : (interface : Interface) → AreLengths interface → AllByRecursion IsNear (connected_routes interface)
near_of interface lengths = by_case interface.shut
  where
    by_case : (b : Bool) → AllByRecursion IsNear (cond b [] (map (connected_route interface) interface.addresses))
    by_case true = tt
    by_case false = near_routes interface interface.addresses lengths

pub connected_near : (interfaces : List Interface) → AllByRecursion AreLengths interfaces → AllByRecursion IsNear (connected interfaces)
connected_near [] lengths = tt
connected_near (interface ∷ interfaces) lengths = near_all (connected_routes interface) (connected interfaces) (near_of interface lengths.0) (connected_near interfaces lengths.1)

-- the exit towards a hop is that of the first route to the longest network
pub exit_found : (interfaces : List Interface) (hop many : ℕ) (out : Option ℕ) → AllByRecursion AreLengths interfaces → AreSearched hop many (connected interfaces)
    → option_map (λ (route : Active). route.exit) (find (leads_to (around hop (32 - many))) (connected interfaces)) ≡ Some out → out ≡ exit_towards interfaces hop
exit_found interfaces hop many out lengths searched found = by_case (find (leads_to (around hop (32 - many))) (connected interfaces)) refl
  where
    by_case : (route : Option Active) → find (leads_to (around hop (32 - many))) (connected interfaces) ≡ route → out ≡ exit_towards interfaces hop
    by_case None is = absurd (let none : None ≡ Some out = rw is at found in cc)
    by_case (Some route) is =
        let same : Some route.exit ≡ Some out = rw is at found in
        let best = longest_found hop (32 - many) (connected interfaces) route (connected_near interfaces lengths)
        (λ other longer within. searched other within (omega (arith, longer))) is in
        let exit : out ≡ route.exit = cc in
        exit ∙ sym (ap (option_and_then (λ (r : Active). r.exit)) best)

pub no_exit_found : (interfaces : List Interface) (hop many : ℕ) → AllByRecursion AreLengths interfaces → AreSearched hop many (connected interfaces) → 32 < many → None ≡ exit_towards interfaces hop
no_exit_found interfaces hop many lengths searched all =
    sym (ap (option_and_then (λ (r : Active). r.exit))
    (none_found hop (connected interfaces) (connected interfaces) (connected_near interfaces lengths) (λ len within. searched len within (omega (arith, all)))))

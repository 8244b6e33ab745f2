-- The exit of a route, the mask and the prefix before it, and where they stop.
use Rattle.std.proofs.Common.{◌≡◌, ◌↔◌, ℕ, Bool, true, false, List, [], ◌∷◌, length, Option, Some, None, refl, codes}
use Rattle.ios_lex.specs.Address.{IsAddress}
use Rattle.ios_lex.specs.declared.stop.Due.TheVariants as due
use Rattle.ios_lex.specs.declared.stop.Stop.{Stop}
use Rattle.ios_lex.specs.NextWords.{NoName, IsNameBeside}
use Rattle.ios_lex.specs.Phrases.{Words}
use Rattle.ios_lex.specs.Stops as specs
use Rattle.ios_lex.specs.Stops.{IsStop, LacksFirst, StopsBefore}
use Rattle.ios_lex.proofs.FirstStops.{expected, unexpected}
use Rattle.ios_lex.proofs.Stopping.{stop_behind, stop_first}
use Rattle.ios_lex.proofs.WordForms.{other_no_address, no_number_address, words_differ, zero_address, zero_number}
use Rattle.ios_route.specs.declared.static_route.RouteExit.{RouteExit}
use Rattle.ios_route.specs.declared.static_route.RouteExit.TheVariants as exit
use Rattle.ios_route.specs.RouteLines.{HasDistance, HasExit, IsInterface, unmodelled}
use Rattle.ios_route.specs.RouteParts.{HasHop, SomeDistance, SomeExit, SomeHop}
use Rattle.ios_route.proofs.RouteDistances.{nothing}

-- what stands first
pub data ExitFirst (lax : Bool) (to : RouteExit) (distance : ℕ) (word : List ℕ) (rest : Words) : Type 0 where
  to_hop : (n : ℕ) → to ≡ exit.Hop n → IsAddress word n → HasDistance lax distance rest → ExitFirst lax to distance word rest
  to_null : to ≡ exit.Null → word ≡ codes "Null0" → HasDistance lax distance rest → ExitFirst lax to distance word rest
  to_out : (hop : Option ℕ) → to ≡ exit.Out word hop → IsInterface lax word → HasHop lax hop distance rest → ExitFirst lax to distance word rest

pub first_exit : (lax : Bool) (to : RouteExit) (distance : ℕ) (words : Words) → HasExit lax to distance words → (word : List ℕ) (rest : Words) → words ≡ word ∷ rest
    → ExitFirst lax to distance word rest
first_exit lax to distance words (HasExit.hop other n d more is has) word rest whole =
    let first : word ≡ other = cc in
    let same : more ≡ rest = cc in
    ExitFirst.to_hop n refl (rw first is) (rw same at has)
first_exit lax to distance words (HasExit.null d more has) word rest whole =
    let first : word ≡ codes "Null0" = cc in
    let same : more ≡ rest = cc in
    ExitFirst.to_null refl first (rw same at has)
first_exit lax to distance words (HasExit.out name d more is has) word rest whole =
    let first : word ≡ name = cc in
    let same : more ≡ rest = cc in
    ExitFirst.to_out None (rw first refl) (rw first is) (rw same at (HasHop.none d more has))
first_exit lax to distance words (HasExit.out_to name other n d more is address has) word rest whole =
    let first : word ≡ name = cc in
    let same : other ∷ more ≡ rest = cc in
    ExitFirst.to_out (Some n) (rw first refl) (rw first is) (rw same at (HasHop.some other n d more address has))

pub null_no_address : (n : ℕ) → IsAddress (codes "Null0") n → ⊥
null_no_address n is = other_no_address (codes "Null0") n refl is

-- behind an address
pub exit_hop_read : (words rest : Words) (word : List ℕ) (n distance : ℕ) → words ≡ word ∷ rest → IsAddress word n → HasDistance false distance rest → HasExit false (exit.Hop n) distance words
exit_hop_read words rest word n distance whole is has = rw whole (HasExit.hop word n distance rest is has)

pub exit_hop_stop : (words rest : Words) (word : List ℕ) (n : ℕ) (stop : Stop) → words ≡ word ∷ rest → IsAddress word n → IsStop NoName SomeDistance rest stop → IsStop NoName SomeExit words stop
exit_hop_stop words rest word n stop whole is stops = stop_behind SomeExit SomeDistance words (word ∷ []) rest stop whole same stops
  where
    by : (b : Bool) (to : RouteExit) (distance : ℕ) (x : Words) → ExitFirst b to distance word x → SomeDistance b x
    by b to distance x (ExitFirst.to_hop m same address has) = (distance, has)
    by b to distance x (ExitFirst.to_null same null has) = (distance, has)
    by b to distance x (ExitFirst.to_out hop same interface has) = absurd (interface.no_address n is)

    same : (b : Bool) (x : Words) → SomeExit b (word ∷ x) ↔ SomeDistance b x
    same b x = (λ h. by b h.0 h.1 x (first_exit b h.0 h.1 (word ∷ x) h.2 word x refl), λ has. (exit.Hop n, has.0, HasExit.hop word n has.0 x is has.1))

-- behind `Null0`
pub exit_null_read : (words rest : Words) (distance : ℕ) → words ≡ codes "Null0" ∷ rest → HasDistance false distance rest → HasExit false exit.Null distance words
exit_null_read words rest distance whole has = rw whole (HasExit.null distance rest has)

pub exit_null_stop : (words rest : Words) (stop : Stop) → words ≡ codes "Null0" ∷ rest → IsStop NoName SomeDistance rest stop → IsStop NoName SomeExit words stop
exit_null_stop words rest stop whole stops = stop_behind SomeExit SomeDistance words (codes "Null0" ∷ []) rest stop whole same stops
  where
    by : (b : Bool) (to : RouteExit) (distance : ℕ) (x : Words) → ExitFirst b to distance (codes "Null0") x → SomeDistance b x
    by b to distance x (ExitFirst.to_hop m same address has) = (distance, has)
    by b to distance x (ExitFirst.to_null same null has) = (distance, has)
    by b to distance x (ExitFirst.to_out hop same interface has) = absurd (interface.no_null refl)

    same : (b : Bool) (x : Words) → SomeExit b (codes "Null0" ∷ x) ↔ SomeDistance b x
    same b x = (λ h. by b h.0 h.1 x (first_exit b h.0 h.1 (codes "Null0" ∷ x) h.2 (codes "Null0") x refl), λ has. (exit.Null, has.0, HasExit.null has.0 x has.1))

-- behind the name of an interface
pub is_interface : (word : List ℕ) → ((n : ℕ) → IsAddress word n → ⊥) → (word ≡ codes "Null0" → ⊥) → IsNameBeside unmodelled word → (b : Bool) → IsInterface b word
is_interface word no_address no_null is b = record { no_address = no_address; no_null = no_null; name = λ strict. is }

out_of : (b : Bool) (name : List ℕ) (hop : Option ℕ) (distance : ℕ) (words rest : Words) → words ≡ name ∷ rest → IsInterface b name → HasHop b hop distance rest
    → HasExit b (exit.Out name hop) distance words
out_of b name hop distance words rest whole is (HasHop.none d more has) = rw whole (HasExit.out name d more is has)
out_of b name hop distance words rest whole is (HasHop.some other n d more address has) = rw whole (HasExit.out_to name other n d more is address has)

pub exit_out_read : (words rest : Words) (word : List ℕ) (hop : Option ℕ) (distance : ℕ) → words ≡ word ∷ rest → IsInterface false word → HasHop false hop distance rest
    → HasExit false (exit.Out word hop) distance words
exit_out_read words rest word hop distance whole is has = out_of false word hop distance words rest whole is has

pub exit_out_stop : (words rest : Words) (word : List ℕ) (stop : Stop) → words ≡ word ∷ rest → ((b : Bool) → IsInterface b word) → IsStop NoName SomeHop rest stop → IsStop NoName SomeExit words stop
exit_out_stop words rest word stop whole is stops = stop_behind SomeExit SomeHop words (word ∷ []) rest stop whole same stops
  where
    by : (b : Bool) (to : RouteExit) (distance : ℕ) (x : Words) → ExitFirst b to distance word x → SomeHop b x
    by b to distance x (ExitFirst.to_hop m same address has) = absurd ((is b).no_address m address)
    by b to distance x (ExitFirst.to_null same null has) = absurd ((is b).no_null null)
    by b to distance x (ExitFirst.to_out hop same interface has) = (hop, distance, has)

    same : (b : Bool) (x : Words) → SomeExit b (word ∷ x) ↔ SomeHop b x
    same b x = (λ h. by b h.0 h.1 x (first_exit b h.0 h.1 (word ∷ x) h.2 word x refl), λ has. (exit.Out word has.0, has.1, out_of b word has.0 has.1 (word ∷ x) x refl (is b) has.2))

-- where none stands
zero_hop : (b : Bool) → SomeExit b (codes "0.0.0.0" ∷ [])
zero_hop b = (exit.Hop 0, 1, HasExit.hop (codes "0.0.0.0") 0 1 [] zero_address (nothing b))

out_zero : SomeExit false (codes "0" ∷ [])
out_zero = (exit.Out (codes "0") None, 1, HasExit.out (codes "0") 1 [] zero_interface (nothing false))
  where
    zero_interface : IsInterface false (codes "0")
    zero_interface = record {
      no_address = λ n is. no_number_address (codes "0") n (zero_number 0).decimal.digits is;
      no_null = words_differ (codes "0") (codes "Null0") refl;
      name = λ strict. (refl, refl);
    }

none_left : (to : RouteExit) (distance : ℕ) (words : Words) → HasExit false to distance words → words ≡ [] → ⊥
none_left to distance words (HasExit.hop word n d more is has) none = cc none
none_left to distance words (HasExit.null d more has) none = cc none
none_left to distance words (HasExit.out name d more is has) none = cc none
none_left to distance words (HasExit.out_to name word n d more is address has) none = cc none

pub no_exit : SomeExit false [] → ⊥
no_exit h = none_left h.0 h.1 [] h.2 refl

pub some_exit : (b : Bool) → SomeExit b (codes "0.0.0.0" ∷ [])
some_exit b = zero_hop b

exit_before : (words : Words) → LacksFirst (SomeExit false) words → ((word : List ℕ) (more : Words) → words ≡ word ∷ more → IsInterface true word)
    → StopsBefore NoName SomeExit [] due.Name words
exit_before [] lacks lax = specs.short (codes "0.0.0.0" ∷ [], zero_hop false) no_exit
exit_before (word ∷ more) lacks lax = specs.word word more (record {
  begins = (codes "0.0.0.0" ∷ [], zero_hop false);
  stops = lacks word more refl;
  expected = record {
    address = expected (codes "0.0.0.0", (0, zero_address), ([], zero_hop false));
    number = expected (codes "0", (zero_number 0).decimal.digits, ([], out_zero));
    name = unexpected (λ h. h.1.1);
    whole = unexpected no_exit;
  };
  lax = expected ([], (exit.Out word None, 1, HasExit.out word 1 [] (lax word more refl) (nothing true)));
})

pub exit_short_stop : (words : Words) (stop : Stop) → stop.left ≡ length words → stop.due ≡ due.Name → words ≡ [] → IsStop NoName SomeExit words stop
exit_short_stop words stop left is none =
    stop_first SomeExit words stop left (rw is (exit_before words (λ word more whole begins. absurd (cc)) (λ word more whole. absurd (cc))))

pub exit_stop : (words rest : Words) (word : List ℕ) (stop : Stop) → stop.left ≡ length words → stop.due ≡ due.Name → words ≡ word ∷ rest
    → ((n : ℕ) → IsAddress word n → ⊥) → (word ≡ codes "Null0" → ⊥) → (IsNameBeside unmodelled word → ⊥) → IsStop NoName SomeExit words stop
exit_stop words rest word stop left is whole no_address no_null no_name =
    stop_first SomeExit words stop left (rw is (exit_before words lacks lax))
  where
    lax : (other : List ℕ) (more : Words) → words ≡ other ∷ more → IsInterface true other
    lax other more same =
        let first : other ≡ word = cc in
        rw first (record { no_address = no_address; no_null = no_null; name = λ strict. absurd (cc strict) })

    by : (to : RouteExit) (distance : ℕ) (more : Words) → ExitFirst false to distance word more → ⊥
    by to distance more (ExitFirst.to_hop m same address has) = no_address m address
    by to distance more (ExitFirst.to_null same null has) = no_null null
    by to distance more (ExitFirst.to_out hop same interface has) = no_name (interface.name refl)

    lacks : LacksFirst (SomeExit false) words
    lacks other more same begins =
        let first : other ≡ word = cc in
        let has : HasExit false begins.1.0 begins.1.1 (word ∷ begins.0) = rw first at begins.1.2 in
        by begins.1.0 begins.1.1 begins.0 (first_exit false begins.1.0 begins.1.1 (word ∷ begins.0) has word begins.0 refl)

-- The words of a line spell one route at most.
use Rattle.std.proofs.Common.{◌≡◌, ℕ, true, false, [], ◌∷◌, Option, Some, None, refl, sym, ap, ◌∙◌}
use Rattle.ios_lex.specs.Phrases.{Words}
use Rattle.ios_lex.proofs.AddressParts.{address_is_one}
use Rattle.ios_lex.proofs.PrefixMasks.{prefix_is_one}
use Rattle.ios_lex.proofs.Spellings.{number_is_one}
use Rattle.ios_route.specs.declared.static_route.RouteExit.{RouteExit}
use Rattle.ios_route.specs.declared.static_route.RouteExit.TheVariants as exit
use Rattle.ios_route.specs.declared.static_route.StaticRoute.{StaticRoute}
use Rattle.ios_route.specs.RouteLines.{HasDistance, HasExit, IsRoute}
use Rattle.ios_route.specs.RouteParts.{HasHop}
use Rattle.ios_route.proofs.RouteDistances.{DistanceFirst, first_distance, no_distance_option, distance_begins, begins_no_address, HopFirst, first_hop}
use Rattle.ios_route.proofs.RouteExitWords.{ExitFirst, first_exit, no_exit, null_no_address}
use Rattle.ios_route.proofs.RouteOptions.{option_word}

-- distances
distance_left : (d : ℕ) (words : Words) → HasDistance false d words → words ≡ [] → d ≡ 1
distance_left d words (HasDistance.left_out more are) none = refl
distance_left d words (HasDistance.written word n more is least are) none = absurd (cc none)

distance_is_one : (d d' : ℕ) (words : Words) → HasDistance false d words → HasDistance false d' words → d ≡ d'
distance_is_one d d' [] has other = distance_left d [] has refl ∙ sym (distance_left d' [] other refl)
distance_is_one d d' (word ∷ rest) has other = by (first_distance false d (word ∷ rest) has word rest refl) (first_distance false d' (word ∷ rest) other word rest refl)
  where
    by : DistanceFirst false d word rest → DistanceFirst false d' word rest → d ≡ d'
    by (DistanceFirst.left_out one are) (DistanceFirst.left_out one' are') = one ∙ sym one'
    by (DistanceFirst.left_out one are) (DistanceFirst.written is are') = absurd (no_distance_option word d' (option_word false true true true word rest are) is)
    by (DistanceFirst.written is are) (DistanceFirst.left_out one are') = absurd (no_distance_option word d (option_word false true true true word rest are') is)
    by (DistanceFirst.written is are) (DistanceFirst.written is' are') = number_is_one 254 word d d' is.0 is'.0

-- next hops behind the name of an interface
hop_left : (hop : Option ℕ) (d : ℕ) (words : Words) → HasHop false hop d words → words ≡ [] → (hop ≡ None) × HasDistance false d words
hop_left hop d words (HasHop.none _ _ has) none = (refl, has)
hop_left hop d words (HasHop.some word n _ more is has) none = absurd (cc none)

hop_is_one : (hop hop' : Option ℕ) (d d' : ℕ) (words : Words) → HasHop false hop d words → HasHop false hop' d' words → (hop ≡ hop') × (d ≡ d')
hop_is_one hop hop' d d' [] has other =
    let left = hop_left hop d [] has refl in
    let left' = hop_left hop' d' [] other refl in
    (left.0 ∙ sym left'.0, distance_is_one d d' [] left.1 left'.1)
hop_is_one hop hop' d d' (word ∷ rest) has other = by (first_hop false hop d (word ∷ rest) has word rest refl) (first_hop false hop' d' (word ∷ rest) other word rest refl)
  where
    by : HopFirst false hop d word rest → HopFirst false hop' d' word rest → (hop ≡ hop') × (d ≡ d')
    by (HopFirst.none same behind) (HopFirst.none same' behind') = (same ∙ sym same', distance_is_one d d' (word ∷ rest) behind behind')
    by (HopFirst.none same behind) (HopFirst.some n same' is behind') = absurd (begins_no_address word n (distance_begins false d word rest behind) is)
    by (HopFirst.some n same is behind) (HopFirst.none same' behind') = absurd (begins_no_address word n (distance_begins false d' word rest behind') is)
    by (HopFirst.some n same is behind) (HopFirst.some n' same' is' behind') =
        (same ∙ ap Some (address_is_one word n n' is is') ∙ sym same', distance_is_one d d' rest behind behind')

-- exits
exit_is_one : (to to' : RouteExit) (d d' : ℕ) (words : Words) → HasExit false to d words → HasExit false to' d' words → (to ≡ to') × (d ≡ d')
exit_is_one to to' d d' [] has other = absurd (no_exit (to, d, has))
exit_is_one to to' d d' (word ∷ rest) has other = by (first_exit false to d (word ∷ rest) has word rest refl) (first_exit false to' d' (word ∷ rest) other word rest refl)
  where
    by : ExitFirst false to d word rest → ExitFirst false to' d' word rest → (to ≡ to') × (d ≡ d')
    by (ExitFirst.to_hop n same is behind) (ExitFirst.to_hop n' same' is' behind') =
        (same ∙ ap exit.Hop (address_is_one word n n' is is') ∙ sym same', distance_is_one d d' rest behind behind')
    by (ExitFirst.to_hop n same is behind) (ExitFirst.to_null same' null behind') = absurd (null_no_address n (rw null at is))
    by (ExitFirst.to_hop n same is behind) (ExitFirst.to_out hop same' interface behind') = absurd (interface.no_address n is)
    by (ExitFirst.to_null same null behind) (ExitFirst.to_hop n same' is behind') = absurd (null_no_address n (rw null at is))
    by (ExitFirst.to_null same null behind) (ExitFirst.to_null same' null' behind') = (same ∙ sym same', distance_is_one d d' rest behind behind')
    by (ExitFirst.to_null same null behind) (ExitFirst.to_out hop same' interface behind') = absurd (interface.no_null null)
    by (ExitFirst.to_out hop same interface behind) (ExitFirst.to_hop n same' is behind') = absurd (interface.no_address n is)
    by (ExitFirst.to_out hop same interface behind) (ExitFirst.to_null same' null behind') = absurd (interface.no_null null)
    by (ExitFirst.to_out hop same interface behind) (ExitFirst.to_out hop' same' interface' behind') =
        let one = hop_is_one hop hop' d d' rest behind behind' in
        (same ∙ ap (λ (h : Option ℕ). exit.Out word h) one.0 ∙ sym same', one.1)

-- routes
pub route_is_one : (route other : StaticRoute) (words : Words) → route.line ≡ other.line → IsRoute false route words → IsRoute false other words → route ≡ other
route_is_one route other words line is is' =
    let both = sym is.whole ∙ is'.whole in
    let prefix_word : is'.prefix_word ≡ is.prefix_word = cc both in
    let mask_word : is'.mask_word ≡ is.mask_word = cc both in
    let more : is'.more ≡ is.more = cc both in
    let prefix : route.prefix ≡ other.prefix = address_is_one is.prefix_word route.prefix other.prefix is.prefix (rw prefix_word at is'.prefix) in
    let mask : is'.mask ≡ is.mask = address_is_one is.mask_word is'.mask is.mask (rw mask_word at is'.mask_is) is.mask_is in
    let len : route.len ≡ other.len = prefix_is_one is.mask route.len other.len (is.len refl).ones (rw mask at (is'.len refl).ones) in
    let behind = exit_is_one route.exit other.exit route.distance other.distance is.more is.exit (rw more at is'.exit) in
    λ i. record { line = line i; prefix = prefix i; len = len i; exit = behind.0 i; distance = behind.1 i }

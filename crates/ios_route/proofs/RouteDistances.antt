-- The distance of a route and what stands behind it, and a next hop before it; and where they stop.
use Rattle.std.proofs.Common.{◌≡◌, inl, inr, ◌↔◌, ◌||◌, ℕ, Bool, true, false, List, [], ◌∷◌, length, Option, Some, None, refl, codes, arith}
use Rattle.std.specs.Str.{bytes_eq}
use Rattle.std.proofs.lemmas.Slice.Eq.{bytes_eq-Decides}
use Rattle.ios_lex.specs.Address.{IsAddress}
use Rattle.ios_lex.specs.Decimal.{IsNumber}
use Rattle.ios_lex.specs.declared.stop.Due.TheVariants as due
use Rattle.ios_lex.specs.declared.stop.Stop.{Stop}
use Rattle.ios_lex.specs.Following.{Begins}
use Rattle.ios_lex.specs.NextWords.{NoName}
use Rattle.ios_lex.specs.Phrases.{Words}
use Rattle.ios_lex.specs.Stops.{IsStop}
use Rattle.ios_lex.proofs.FirstStops.{expected, unexpected, stop_at, stop_ahead, lacks_word}
use Rattle.ios_lex.proofs.Stopping.{stop_behind}
use Rattle.ios_lex.proofs.WordForms.{other_no_address, other_no_number, no_number_address, number_word, zero_address, zero_number}
use Rattle.ios_route.specs.RouteLines.{AreOptions, HasDistance}
use Rattle.ios_route.specs.RouteParts.{BeginsDistance, HasHop, is_option, IsDistance, SomeDistance, SomeHop, SomeOptions}
use Rattle.ios_route.proofs.RouteOptions.{option_word, option_no_digit}

-- each word of the options begins some
pub option_begins : (word : List ℕ) → is_option word ≡ true → Begins (SomeOptions true true true false) (word ∷ [])
option_begins word is = by (bytes_eq word (codes "permanent")) (bytes_eq word (codes "name")) (bytes_eq word (codes "tag")) refl refl refl is
  where
    by : (p n t : Bool) → bytes_eq word (codes "permanent") ≡ p → bytes_eq word (codes "name") ≡ n → bytes_eq word (codes "tag") ≡ t → (p || (n || t)) ≡ true
        → Begins (SomeOptions true true true false) (word ∷ [])
    by true n t is_p is_n is_t some =
        let same = (bytes_eq-Decides word (codes "permanent")).0 is_p in
        ([], rw same (AreOptions.permanent true true [] (AreOptions.none false true true)))
    by false true t is_p is_n is_t some =
        let same = (bytes_eq-Decides word (codes "name")).0 is_n in
        (codes "WAN" ∷ [], rw same (AreOptions.name true true (codes "WAN") [] (λ strict. (refl, refl)) (AreOptions.none true false true)))
    by false false true is_p is_n is_t some =
        let same = (bytes_eq-Decides word (codes "tag")).0 is_t in
        (codes "0" ∷ [], rw same (AreOptions.tag true true (codes "0") 0 [] (zero_number _) (AreOptions.none true true false)))
    by false false false is_p is_n is_t some = absurd (cc some)

-- what stands first
pub data DistanceFirst (lax : Bool) (distance : ℕ) (word : List ℕ) (rest : Words) : Type 0 where
  left_out : distance ≡ 1 → AreOptions lax true true true (word ∷ rest) → DistanceFirst lax distance word rest
  written : IsDistance word distance → AreOptions lax true true true rest → DistanceFirst lax distance word rest

pub first_distance : (lax : Bool) (distance : ℕ) (words : Words) → HasDistance lax distance words → (word : List ℕ) (rest : Words) → words ≡ word ∷ rest → DistanceFirst lax distance word rest
first_distance lax distance words (HasDistance.left_out more are) word rest whole = DistanceFirst.left_out refl (rw whole at are)
first_distance lax distance words (HasDistance.written other n more is least are) word rest whole =
    let first : word ≡ other = cc in
    let same : more ≡ rest = cc in
    DistanceFirst.written (rw first is, least) (rw same at are)

pub no_distance_option : (word : List ℕ) (n : ℕ) → is_option word ≡ true → IsDistance word n → ⊥
no_distance_option word n option is = other_no_number word (option_no_digit word option) (number_word 254 word n is.0)

pub distance_begins : (lax : Bool) (distance : ℕ) (word : List ℕ) (rest : Words) → HasDistance lax distance (word ∷ rest) → BeginsDistance word
distance_begins lax distance word rest has = by (first_distance lax distance (word ∷ rest) has word rest refl)
  where
    by : DistanceFirst lax distance word rest → BeginsDistance word
    by (DistanceFirst.left_out one are) = inl (option_word lax true true true word rest are)
    by (DistanceFirst.written is are) = inr (distance, is)

pub begins_no_address : (word : List ℕ) (n : ℕ) → BeginsDistance word → IsAddress word n → ⊥
begins_no_address word n (inl option) address = other_no_address word n (option_no_digit word option) address
begins_no_address word n (inr number) address = no_number_address word n (number_word 254 word number.0 number.1.0) address

-- behind a distance
pub distance_none : (words : Words) → words ≡ [] → HasDistance false 1 words
distance_none words none = rw none (HasDistance.left_out [] (AreOptions.none true true true))

pub distance_read : (words rest : Words) (word : List ℕ) (n : ℕ) → words ≡ word ∷ rest → IsDistance word n → AreOptions false true true true rest → HasDistance false n words
distance_read words rest word n whole is are = rw whole (HasDistance.written word n rest is.0 is.1 are)

pub distance_behind_stop : (words rest : Words) (word : List ℕ) (n : ℕ) (stop : Stop) → words ≡ word ∷ rest → IsDistance word n → IsStop NoName (SomeOptions true true true) rest stop
    → IsStop NoName SomeDistance words stop
distance_behind_stop words rest word n stop whole is stops = stop_behind SomeDistance (SomeOptions true true true) words (word ∷ []) rest stop whole same stops
  where
    by : (b : Bool) (distance : ℕ) (x : Words) → DistanceFirst b distance word x → AreOptions b true true true x
    by b distance x (DistanceFirst.left_out one are) = absurd (no_distance_option word n (option_word b true true true word x are) is)
    by b distance x (DistanceFirst.written number are) = are

    same : (b : Bool) (x : Words) → SomeDistance b (word ∷ x) ↔ SomeOptions true true true b x
    same b x = (λ h. by b h.0 x (first_distance b h.0 (word ∷ x) h.1 word x refl), λ are. (n, HasDistance.written word n x is.0 is.1 are))

-- where it is left out
pub distance_options_stop : (words rest : Words) (word : List ℕ) (stop : Stop) → words ≡ word ∷ rest → is_option word ≡ true → IsStop NoName (SomeOptions true true true) words stop
    → IsStop NoName SomeDistance words stop
distance_options_stop words rest word stop whole option stops =
    stop_behind SomeDistance (λ b x. SomeOptions true true true b (word ∷ x)) words (word ∷ []) rest stop whole same
    (stop_ahead (SomeOptions true true true) words rest word stop whole (option_begins word option) stops)
  where
    by : (b : Bool) (distance : ℕ) (x : Words) → DistanceFirst b distance word x → AreOptions b true true true (word ∷ x)
    by b distance x (DistanceFirst.left_out one are) = are
    by b distance x (DistanceFirst.written number are) = absurd (no_distance_option word distance option number)

    same : (b : Bool) (x : Words) → SomeDistance b (word ∷ x) ↔ SomeOptions true true true b (word ∷ x)
    same b x = (λ h. by b h.0 x (first_distance b h.0 (word ∷ x) h.1 word x refl), λ are. (1, HasDistance.left_out (word ∷ x) are))

pub nothing : (b : Bool) → HasDistance b 1 []
nothing b = HasDistance.left_out [] (AreOptions.none true true true)

one_number : IsNumber 254 (codes "1") 1
one_number = record { decimal = record { digits = (omega arith, (omega arith, tt)); few = omega arith; value = refl }; within = omega arith }

pub one_distance : IsDistance (codes "1") 1
one_distance = (one_number, omega arith)

one_alone : (b : Bool) → HasDistance b 1 (codes "1" ∷ [])
one_alone b = HasDistance.written (codes "1") 1 [] one_distance.0 one_distance.1 (AreOptions.none true true true)

-- before another word
pub distance_stop : (words rest : Words) (word : List ℕ) (stop : Stop) → stop.left ≡ length words → stop.due ≡ due.NumberOrEnd → words ≡ word ∷ rest
    → is_option word ≡ false → ((n : ℕ) → IsDistance word n → ⊥) → IsStop NoName SomeDistance words stop
distance_stop words rest word stop left is whole other none =
    stop_at SomeDistance words stop due.NumberOrEnd left is refl ([], (1, nothing false))
    (record {
      address = unexpected (λ h. begins_no_address h.0 h.1.0 (distance_begins false h.2.1.0 h.0 h.2.0 h.2.1.1) h.1.1);
      number = expected (codes "1", one_number.decimal.digits, ([], (1, one_alone false)));
      name = unexpected (λ h. h.1.1);
      whole = expected (1, nothing false);
    })
    (λ empty. absurd (cc))
    (λ b. lacks_word (SomeDistance b) words rest word whole (λ begins. by (distance_begins b begins.1.0 word begins.0 begins.1.1)))
  where
    by : BeginsDistance word → ⊥
    by (inl option) = cc
    by (inr number) = none number.0 number.1

-- a next hop, or none
pub data HopFirst (lax : Bool) (hop : Option ℕ) (distance : ℕ) (word : List ℕ) (rest : Words) : Type 0 where
  none : hop ≡ None → HasDistance lax distance (word ∷ rest) → HopFirst lax hop distance word rest
  some : (n : ℕ) → hop ≡ Some n → IsAddress word n → HasDistance lax distance rest → HopFirst lax hop distance word rest

pub first_hop : (lax : Bool) (hop : Option ℕ) (distance : ℕ) (words : Words) → HasHop lax hop distance words → (word : List ℕ) (rest : Words) → words ≡ word ∷ rest
    → HopFirst lax hop distance word rest
first_hop lax hop distance words (HasHop.none d more has) word rest whole = HopFirst.none refl (rw whole at has)
first_hop lax hop distance words (HasHop.some other n d more is has) word rest whole =
    let first : word ≡ other = cc in
    let same : more ≡ rest = cc in
    HopFirst.some n refl (rw first is) (rw same at has)

pub hop_none : (words : Words) (distance : ℕ) → HasDistance false distance words → HasHop false None distance words
hop_none words distance has = HasHop.none distance words has

pub hop_read : (words rest : Words) (word : List ℕ) (n distance : ℕ) → words ≡ word ∷ rest → IsAddress word n → HasDistance false distance rest → HasHop false (Some n) distance words
hop_read words rest word n distance whole is has = rw whole (HasHop.some word n distance rest is has)

pub hop_behind_stop : (words rest : Words) (word : List ℕ) (n : ℕ) (stop : Stop) → words ≡ word ∷ rest → IsAddress word n → IsStop NoName SomeDistance rest stop → IsStop NoName SomeHop words stop
hop_behind_stop words rest word n stop whole is stops = stop_behind SomeHop SomeDistance words (word ∷ []) rest stop whole same stops
  where
    by : (b : Bool) (hop : Option ℕ) (distance : ℕ) (x : Words) → HopFirst b hop distance word x → SomeDistance b x
    by b hop distance x (HopFirst.none left has) = absurd (begins_no_address word n (distance_begins b distance word x has) is)
    by b hop distance x (HopFirst.some m same address has) = (distance, has)

    same : (b : Bool) (x : Words) → SomeHop b (word ∷ x) ↔ SomeDistance b x
    same b x = (λ h. by b h.0 h.1 x (first_hop b h.0 h.1 (word ∷ x) h.2 word x refl), λ has. (Some n, has.0, HasHop.some word n has.0 x is has.1))

begin_distance : (word : List ℕ) → BeginsDistance word → Begins (SomeDistance false) (word ∷ [])
begin_distance word (inl option) = let begins = option_begins word option in (begins.0, (1, HasDistance.left_out (word ∷ begins.0) begins.1))
begin_distance word (inr number) = ([], (number.0, HasDistance.written word number.0 [] number.1.0 number.1.1 (AreOptions.none true true true)))

pub hop_distance_stop : (words rest : Words) (word : List ℕ) (stop : Stop) → words ≡ word ∷ rest → BeginsDistance word → ((n : ℕ) → IsAddress word n → ⊥)
    → IsStop NoName SomeDistance words stop → IsStop NoName SomeHop words stop
hop_distance_stop words rest word stop whole begins no_address stops =
    stop_behind SomeHop (λ b x. SomeDistance b (word ∷ x)) words (word ∷ []) rest stop whole same
    (stop_ahead SomeDistance words rest word stop whole (begin_distance word begins) stops)
  where
    by : (b : Bool) (hop : Option ℕ) (distance : ℕ) (x : Words) → HopFirst b hop distance word x → SomeDistance b (word ∷ x)
    by b hop distance x (HopFirst.none left has) = (distance, has)
    by b hop distance x (HopFirst.some m same address has) = absurd (no_address m address)

    same : (b : Bool) (x : Words) → SomeHop b (word ∷ x) ↔ SomeDistance b (word ∷ x)
    same b x = (λ h. by b h.0 h.1 x (first_hop b h.0 h.1 (word ∷ x) h.2 word x refl), λ has. (None, has.0, HasHop.none has.0 (word ∷ x) has.1))

no_hop : (b : Bool) → SomeHop b []
no_hop b = (None, 1, HasHop.none 1 [] (nothing b))

pub hop_stop : (words rest : Words) (word : List ℕ) (stop : Stop) → stop.left ≡ length words → stop.due ≡ due.AddressOrNumberOrEnd → words ≡ word ∷ rest
    → (BeginsDistance word → ⊥) → ((n : ℕ) → IsAddress word n → ⊥) → IsStop NoName SomeHop words stop
hop_stop words rest word stop left is whole other no_address =
    stop_at SomeHop words stop due.AddressOrNumberOrEnd left is refl ([], no_hop false)
    (record {
      address = expected (codes "0.0.0.0", (0, zero_address), ([], (Some 0, 1, HasHop.some (codes "0.0.0.0") 0 1 [] zero_address (nothing false))));
      number = expected (codes "1", one_number.decimal.digits, ([], (None, 1, HasHop.none 1 (codes "1" ∷ []) (one_alone false))));
      name = unexpected (λ h. h.1.1);
      whole = expected (no_hop false);
    })
    (λ empty. absurd (cc))
    (λ b. lacks_word (SomeHop b) words rest word whole
    (λ begins. by b begins.1.0 begins.1.1 begins.0 (first_hop b begins.1.0 begins.1.1 (word ∷ begins.0) begins.1.2 word begins.0 refl)))
  where
    by : (b : Bool) (hop : Option ℕ) (distance : ℕ) (more : Words) → HopFirst b hop distance word more → ⊥
    by b hop distance more (HopFirst.none same has) = other (distance_begins b distance word more has)
    by b hop distance more (HopFirst.some n same address has) = no_address n address

-- The parts of a route's line as kinds of words, whatever their values. Private calls are stated by them, and no public one.
use Rattle.std.specs.Prelude.{◌≡◌, ◌⊎◌, ◌||◌, ℕ, ◌≤◌, Bool, true, false, List, ◌∷◌, Option, Some, None, codes}
use Rattle.std.specs.Str.{bytes_eq}
use Rattle.ios_lex.specs.Address.{IsAddress}
use Rattle.ios_lex.specs.Decimal.{IsNumber}
use Rattle.ios_lex.specs.declared.reason.IosReason.{IosReason}
use Rattle.ios_lex.specs.declared.stop.Stop.{Stop}
use Rattle.ios_lex.specs.Phrases.{Words}
use Rattle.ios_lex.specs.Stops.{place_of, stop_reason}
use Rattle.ios_route.specs.declared.route_line.Written.{Written}
use Rattle.ios_route.specs.declared.route_line.WrittenExit.{WrittenExit}
use Rattle.ios_route.specs.declared.route_line.WrittenExit.TheVariants as written
use Rattle.ios_route.specs.declared.static_route.RouteExit.{RouteExit}
use Rattle.ios_route.specs.declared.static_route.RouteExit.TheVariants as exit
use Rattle.ios_route.specs.declared.static_route.StaticRoute.{StaticRoute}
use Rattle.ios_route.specs.RouteLines.{AreOptions, HasDistance, HasExit, IsMaskOf}
use Rattle.ios_route.specs.RouteRefusals.{lax_reason, unmodelled_at}

abbrev pub SomeOptions : Bool → Bool → Bool → Bool → Words → Type 0
SomeOptions permanent name tag lax words = AreOptions lax permanent name tag words

abbrev pub SomeDistance : Bool → Words → Type 0
SomeDistance lax words = (distance : ℕ) × HasDistance lax distance words

-- what may stand behind the name of an interface
pub data HasHop (lax : Bool) : Option ℕ → ℕ → Words → Type 0 where
  none : (distance : ℕ) (words : Words) → HasDistance lax distance words
      → HasHop lax None distance words
  some : (word : List ℕ) (n distance : ℕ) (words : Words) → IsAddress word n
      → HasDistance lax distance words → HasHop lax (Some n) distance (word ∷ words)

abbrev pub SomeHop : Bool → Words → Type 0
SomeHop lax words = (hop : Option ℕ) × (distance : ℕ) × HasHop lax hop distance words

abbrev pub SomeExit : Bool → Words → Type 0
SomeExit lax words = (exit : RouteExit) × (distance : ℕ) × HasExit lax exit distance words

-- what may stand behind a prefix
pub record HasMask (lax : Bool) (prefix len : ℕ) (exit : RouteExit)
    (distance : ℕ) (words : Words) : Type 0 where
  pub word : List ℕ
  pub mask : ℕ
  pub more : Words
  pub whole : words ≡ word ∷ more
  pub is : IsAddress word mask
  pub ones : lax ≡ false → IsMaskOf prefix len mask
  pub behind : HasExit lax exit distance more

abbrev pub SomeMask : ℕ → Bool → Words → Type 0
SomeMask prefix lax words =
    (len : ℕ) × (exit : RouteExit) × (distance : ℕ) × HasMask lax prefix len exit distance words

-- a word of the options
abbrev pub is_option : List ℕ → Bool
is_option word =
    bytes_eq word (codes "permanent")
    || (bytes_eq word (codes "name") || bytes_eq word (codes "tag"))

abbrev pub IsDistance : List ℕ → ℕ → Type 0
IsDistance word n = IsNumber 254 word n × (1 ≤ n)

-- a distance, or the words behind it, begin with the word
abbrev pub BeginsDistance : List ℕ → Type 0
BeginsDistance word = (is_option word ≡ true) ⊎ ((n : ℕ) × IsDistance word n)

-- the exit that is written
abbrev pub exit_of : WrittenExit → RouteExit
exit_of (written.Hop hop) = exit.Hop hop
exit_of (written.Out name hop) = exit.Out name.now hop
exit_of written.Null = exit.Null

abbrev pub route_of : ℕ → Written → StaticRoute
route_of line found = record {
  line = line;
  prefix = found.prefix;
  len = found.len;
  exit = exit_of found.exit;
  distance = found.distance;
}

-- the reason of a stop in the words
abbrev pub line_reason : Words → Stop → IosReason
line_reason words stop =
    stop_reason (unmodelled_at (place_of words stop)) (lax_reason (place_of words stop)) words stop

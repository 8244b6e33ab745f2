-- What a configuration gives, or at which line it is refused, and why.
use Rattle.std.specs.Prelude.{◌≡◌, ℕ, ◌+◌, List, [], ◌∷◌, ◌++◌, length}
use Rattle.ios_lex.specs.Banner.{IsOpen}
use Rattle.ios_lex.specs.Lines.{Reading, AreLines}
use Rattle.ios_lex.specs.RawLines.{raw_lines}
use Rattle.ios_lex.specs.declared.reason.IosReason.{IosReason}
use Rattle.ios_lex.specs.declared.reason.IosReason.TheVariants as ios
use Rattle.ios_route.specs.Faults.{faults}
use Rattle.ios_route.specs.declared.routes.RouteFault.{RouteFault}
use Rattle.ios_config.specs.Line.{Takes, IsLineRefused}
use Rattle.ios_config.specs.Router.{Draft, Router, no_lines, interfaces_of, router_of}
use Rattle.ios_config.specs.Whole.{IsRouteRefusal, all_dangling}

-- the lines are taken one after the other
pub data TakesAll : Draft → List Reading → Draft → Type 0 where
  end : (draft : Draft) → TakesAll draft [] draft
  next : (draft next end : Draft) (line : Reading) (lines : List Reading) → Takes draft line next
      → TakesAll next lines end → TakesAll draft (line ∷ lines) end

-- these lines are the whole text, and make this, where these names of interfaces are known
pub record AreTaken (known : List (List ℕ)) (bytes : List ℕ) (draft : Draft) : Type 0 where
  pub readings : List Reading
  pub are_lines : AreLines 1 (raw_lines bytes) readings
  pub taken : TakesAll (no_lines known) readings draft

abbrev pub route_faults : Draft → List RouteFault
route_faults draft = faults (interfaces_of draft) draft.routes

abbrev pub dangling_entries : Draft → List (ℕ × IosReason)
dangling_entries draft = all_dangling (interfaces_of draft) draft.nat

-- each line is taken, each static route leads somewhere, and each dynamic entry names what is there
pub record Reads (known : List (List ℕ)) (bytes : List ℕ) (router : Router) : Type 0 where
  pub draft : Draft
  pub taken : AreTaken known bytes draft
  pub lead : route_faults draft ≡ []
  pub found : dangling_entries draft ≡ []
  pub is : router ≡ router_of draft

-- a file is refused at its first line that is; only where all are taken at its first static route, and then at its first dynamic entry
pub data IsRefused (known : List (List ℕ)) (bytes : List ℕ) : ℕ → IosReason → Type 0 where
  line : (front back : List (List ℕ)) (before after : List Reading) (line : Reading) (draft : Draft)
      (why : IosReason)
      → raw_lines bytes ≡ front ++ back → AreLines 1 front (before ++ line ∷ after)
      → TakesAll (no_lines known) before draft → IsLineRefused draft line why
      → IsRefused known bytes line.number why
  -- a banner without an end is refused where it opens
  open_banner : (front back : List (List ℕ)) (before : List Reading) (line : List ℕ) (draft : Draft)
      → raw_lines bytes ≡ front ++ line ∷ back → AreLines 1 front before
      → TakesAll (no_lines known) before draft
      → IsOpen line back → IsRefused known bytes (length front + 1) ios.Unclosed
  route : (draft : Draft) (fault : RouteFault) (more : List RouteFault) (at : ℕ) (why : IosReason)
      → AreTaken known bytes draft → route_faults draft ≡ fault ∷ more → IsRouteRefusal fault at why
      → IsRefused known bytes at why
  dynamic : (draft : Draft) (at : ℕ) (why : IosReason) (more : List (ℕ × IosReason))
      → AreTaken known bytes draft
      → route_faults draft ≡ [] → dangling_entries draft ≡ (at, why) ∷ more
      → IsRefused known bytes at why

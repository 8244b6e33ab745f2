-- What the words behind `ip route` spell (Cisco IOS command references, `ip route`), each part with what stands behind it. Lax lines
-- take any address as a mask, and any word as a name.
use Rattle.std.specs.Prelude.{◌≡◌, ℕ, ◌≤◌, Bool, true, false, List, [], ◌∷◌, Some, None, codes}
use Rattle.ios_lex.specs.Address.{IsAddress}
use Rattle.ios_lex.specs.Decimal.{IsNumber}
use Rattle.ios_lex.specs.Mask.{IsPrefixMask}
use Rattle.ios_lex.specs.NextWords.{IsNameBeside}
use Rattle.ios_lex.specs.Phrases.{Words}
use Rattle.ios_route.specs.declared.static_route.RouteExit.{RouteExit}
use Rattle.ios_route.specs.declared.static_route.RouteExit.TheVariants as exit
use Rattle.ios_route.specs.declared.static_route.StaticRoute.{StaticRoute}
use Rattle.ios_route.specs.Networks.{network}

-- words that make a route depend on what is not in the text
abbrev pub unmodelled : Words
unmodelled = codes "track" ∷ []

-- as the first word
abbrev pub unmodelled_first : Words
unmodelled_first = codes "vrf" ∷ unmodelled

abbrev pub greatest_tag : ℕ
greatest_tag = 9999999999

-- words without effect, in any order, each once at most: those that may still stand
pub data AreOptions (lax : Bool) : Bool → Bool → Bool → Words → Type 0 where
  none : (permanent name tag : Bool) → AreOptions lax permanent name tag []
  permanent : (name tag : Bool) (words : Words) → AreOptions lax false name tag words
      → AreOptions lax true name tag (codes "permanent" ∷ words)
  name : (permanent tag : Bool) (word : List ℕ) (words : Words)
      → (lax ≡ false → IsNameBeside unmodelled word) → AreOptions lax permanent false tag words
      → AreOptions lax permanent true tag (codes "name" ∷ word ∷ words)
  tag : (permanent name : Bool) (word : List ℕ) (n : ℕ) (words : Words)
      → IsNumber greatest_tag word n → AreOptions lax permanent name false words
      → AreOptions lax permanent name true (codes "tag" ∷ word ∷ words)

-- a distance from 1 to 254, and 1 where none is written
pub data HasDistance (lax : Bool) : ℕ → Words → Type 0 where
  left_out : (words : Words) → AreOptions lax true true true words → HasDistance lax 1 words
  written : (word : List ℕ) (n : ℕ) (words : Words) → IsNumber 254 word n → 1 ≤ n
      → AreOptions lax true true true words → HasDistance lax n (word ∷ words)

-- the name of an interface: no address, and not that of dropped packets
pub record IsInterface (lax : Bool) (word : List ℕ) : Type 0 where
  pub no_address : (n : ℕ) → IsAddress word n → ⊥
  pub no_null : word ≡ codes "Null0" → ⊥
  pub name : lax ≡ false → IsNameBeside unmodelled word

pub data HasExit (lax : Bool) : RouteExit → ℕ → Words → Type 0 where
  hop : (word : List ℕ) (n distance : ℕ) (words : Words) → IsAddress word n
      → HasDistance lax distance words → HasExit lax (exit.Hop n) distance (word ∷ words)
  null : (distance : ℕ) (words : Words) → HasDistance lax distance words
      → HasExit lax exit.Null distance (codes "Null0" ∷ words)
  out : (name : List ℕ) (distance : ℕ) (words : Words) → IsInterface lax name
      → HasDistance lax distance words → HasExit lax (exit.Out name None) distance (name ∷ words)
  out_to : (name word : List ℕ) (n distance : ℕ) (words : Words) → IsInterface lax name
      → IsAddress word n → HasDistance lax distance words
      → HasExit lax (exit.Out name (Some n)) distance (name ∷ word ∷ words)

-- the mask is so many ones and then zeros, and has all bits of the prefix
pub record IsMaskOf (prefix len mask : ℕ) : Type 0 where
  pub ones : IsPrefixMask mask len
  pub inside : network len prefix ≡ prefix

pub record IsRoute (lax : Bool) (route : StaticRoute) (words : Words) : Type 0 where
  pub prefix_word : List ℕ
  pub mask_word : List ℕ
  pub mask : ℕ
  pub more : Words
  pub whole : words ≡ prefix_word ∷ mask_word ∷ more
  pub prefix : IsAddress prefix_word route.prefix
  pub mask_is : IsAddress mask_word mask
  pub len : lax ≡ false → IsMaskOf route.prefix route.len mask
  pub exit : HasExit lax route.exit route.distance more

-- some route is spelled
abbrev pub Line : Bool → Words → Type 0
Line lax words = (route : StaticRoute) × IsRoute lax route words

-- Why the words behind `ip route` are refused.
use Rattle.std.specs.Prelude.{◌≡◌, ℕ, ◌==◌, Bool, false, List, ◌∷◌, ◌++◌, length}
use Rattle.std.specs.Bool.{if◌then◌else◌}
use Rattle.ios_lex.specs.declared.reason.IosReason.{IosReason}
use Rattle.ios_lex.specs.declared.reason.IosReason.TheVariants as reason
use Rattle.ios_lex.specs.Following.{Begins, Expected, StopsAt}
use Rattle.ios_lex.specs.NextWords.{NoName}
use Rattle.ios_lex.specs.Phrases.{Words}
use Rattle.ios_lex.specs.Refusal.{reason_of, table_at}
use Rattle.ios_lex.specs.declared.fault.LineFault.{LineFault}
use Rattle.ios_lex.specs.declared.fault.LineFault.TheVariants as fault
use Rattle.ios_route.specs.RouteLines.{Line, unmodelled, unmodelled_first}

-- an address that is no mask is refused for that where the mask stands, and elsewhere a word that is no name
abbrev pub lax_reason : ℕ → IosReason
lax_reason place = if place == 1 then reason.BadMask else reason.BadEntry

-- the words that are not modelled at a place
abbrev pub unmodelled_at : ℕ → Words
unmodelled_at place = table_at 1 unmodelled_first unmodelled place

abbrev pub reason_at : Words → Expected → Bool → List ℕ → IosReason
reason_at front expected over word =
    reason_of (unmodelled_at (length front)) (lax_reason (length front)) expected over word

pub data IsRefused (words : Words) : IosReason → Type 0 where
  -- no route goes on with a word
  stop : (front more : Words) (word : List ℕ) (expected : Expected) (over : Bool)
      → words ≡ front ++ word ∷ more → StopsAt NoName Line front word expected over
      → IsRefused words (reason_at front expected over word)
  -- the line ends too early
  short : Begins (Line false) words → (Line false words → ⊥) → IsRefused words reason.BadEntry

-- the words are refused for this reason; memory may be wanting at any time
abbrev pub IsFault : Words → LineFault → Type 0
IsFault words (fault.Refused why) = IsRefused words why
IsFault words fault.NoMemory = Unit {0}

-- What a list becomes with the words of one more line, or why the line is refused.
use Rattle.std.specs.Prelude.{◌≡◌, ℕ, ◌<◌, ◌≤◌, Bool, true, false, List, ◌∷◌, ◌++◌, length, Option, Some, None}
use Rattle.ios_lex.specs.Decimal.{IsNumber}
use Rattle.ios_lex.specs.declared.reason.IosReason.{IosReason}
use Rattle.ios_lex.specs.declared.reason.IosReason.TheVariants as reason
use Rattle.ios_lex.specs.Phrases.{Words}
use Rattle.ios_lex.specs.Following.{Begins, Expected}
use Rattle.ios_acl.specs.declared.entry.Entry.{Entry}
use Rattle.ios_acl.specs.declared.entry.Verdict.{Verdict}
use Rattle.ios_acl.specs.Grammar.{IsEntry, IsRemark, IsSentence, verdict_word}
use Rattle.ios_acl.specs.List.{AccessList, with_entry, next_number, has_number, greatest_sequence, most_entries}
use Rattle.ios_acl.specs.Refusal.{reason_at}
use Rattle.ios_acl.specs.Stops.{StopsAt}

-- the number that may stand first on a line
pub record IsSequence (word : List ℕ) (n : ℕ) : Type 0 where
  pub number : IsNumber greatest_sequence word n
  pub some : 0 < n

-- a number may stand before the rest of the line
pub data IsOpened (words : Words) (number : Option ℕ) (rest : Words) : Type 0 where
  numbered : (word : List ℕ) (n : ℕ) → words ≡ word ∷ rest → IsSequence word n → number ≡ Some n
      → IsOpened words number rest
  plain : words ≡ rest
      → ((word : List ℕ) (n : ℕ) (more : Words) → words ≡ word ∷ more → IsSequence word n → ⊥)
      → number ≡ None → IsOpened words number rest

-- the number of an entry that is written with this one, or without one
pub data IsNumberOf (entries : List Entry) (number : Option ℕ) (n : ℕ) : Type 0 where
  given : number ≡ Some n → has_number entries n ≡ false → IsNumberOf entries number n
  next : number ≡ None → n ≡ next_number entries → IsNumberOf entries number n

-- a remark leaves the list as it is, and an entry is added
pub data Reads (list : AccessList) (words : Words) (new : AccessList) : Type 0 where
  remark : (number : Option ℕ) (rest : Words) → IsOpened words number rest → IsRemark rest
      → new ≡ list → Reads list words new
  entry : (number : Option ℕ) (rest : Words) (entry : Entry) → IsOpened words number rest
      → IsEntry list.extended false entry rest
      → IsNumberOf list.entries number entry.number → entry.number ≤ greatest_sequence
      → length list.entries < most_entries
      → new ≡ with_entry list entry → Reads list words new

-- the rest of a line, in a list of this kind. Ranges of ports that end before they begin are taken as well where they may be backward
abbrev pub Sentence : Bool → Bool → Words → Type 0
Sentence extended backward words = (line : Option Entry) × IsSentence extended backward words line

-- the number of an entry is one that the list has
pub record IsTaken (entries : List Entry) (number : Option ℕ) (rest : Words) : Type 0 where
  pub n : ℕ
  pub verdict : Verdict
  pub more : Words
  pub given : number ≡ Some n
  pub has : has_number entries n ≡ true
  pub begins : rest ≡ verdict_word verdict ∷ more

-- why a list does not take a line
pub data IsRefused (list : AccessList) (words : Words) : IosReason → Type 0 where
  -- its number is taken, which shows at the word of the verdict
  taken : (number : Option ℕ) (rest : Words) → IsOpened words number rest
      → IsTaken list.entries number rest → IsRefused list words reason.DuplicateSequence
  -- it goes wrong at a word
  stop : (number : Option ℕ) (rest front more : Words) (word : List ℕ)
      (expected : Expected) (backward : Bool)
      → IsOpened words number rest → (IsTaken list.entries number rest → ⊥)
      → rest ≡ front ++ word ∷ more → StopsAt (Sentence list.extended) front word expected backward
      → IsRefused list words (reason_at number front expected backward word)
  -- it ends too early
  short : (number : Option ℕ) (rest : Words) → IsOpened words number rest
      → (IsTaken list.entries number rest → ⊥)
      → Begins (Sentence list.extended false) rest → (Sentence list.extended false rest → ⊥)
      → IsRefused list words reason.BadEntry
  -- no number is left for it
  overflow : (rest : Words) (entry : Entry) → IsOpened words None rest
      → IsEntry list.extended false entry rest
      → greatest_sequence < next_number list.entries → IsRefused list words reason.BadNumber
  -- the list is full
  full : (number : Option ℕ) (rest : Words) (entry : Entry) → IsOpened words number rest
      → IsEntry list.extended false entry rest
      → IsNumberOf list.entries number entry.number → entry.number ≤ greatest_sequence
      → most_entries ≤ length list.entries
      → IsRefused list words reason.TooMany

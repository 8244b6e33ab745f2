-- Where a reader of words stops, and what was due.
use Rattle.std.specs.Prelude.{◌≡◌, ℕ, ◌-◌, Bool, true, false, List, [], ◌∷◌, ◌++◌, length, slice_get, Option, Some, None}
use Rattle.ios_lex.specs.declared.reason.IosReason.{IosReason}
use Rattle.ios_lex.specs.declared.reason.IosReason.TheVariants as reason
use Rattle.ios_lex.specs.declared.stop.Due.{Due}
use Rattle.ios_lex.specs.declared.stop.Due.TheVariants as due
use Rattle.ios_lex.specs.declared.stop.Stop.{Stop}
use Rattle.ios_lex.specs.Phrases.{Words}
use Rattle.ios_lex.specs.Following.{Begins, Expected, StopsAt}
use Rattle.ios_lex.specs.Refusal.{reason_of}

abbrev pub expecting : Bool → Bool → Bool → Bool → Expected
expecting address number name whole = record {
  address = address;
  number = number;
  name = name;
  whole = whole;
}

-- what may follow where this is due
abbrev pub expected_of : Due → Expected
expected_of due.Keyword = expecting false false false false
expected_of due.Address = expecting true false false false
expected_of due.AddressOrEnd = expecting true false false true
expected_of due.AddressOrNumberOrEnd = expecting true true false true
expected_of due.Name = expecting true true false false
expected_of due.Mask = expecting true false false false
expected_of due.Number = expecting false true false false
expected_of due.Order = expecting false true false false
expected_of due.NameOrEnd = expecting false true true true
expected_of due.NumberOrEnd = expecting false true false true
expected_of due.Nothing = expecting false false false true

-- a line that is lax goes on with the word
abbrev pub is_lax : Due → Bool
is_lax due.Name = true
is_lax due.Mask = true
is_lax due.Order = true
is_lax due.Keyword = false
is_lax due.Address = false
is_lax due.AddressOrEnd = false
is_lax due.AddressOrNumberOrEnd = false
is_lax due.Number = false
is_lax due.NameOrEnd = false
is_lax due.NumberOrEnd = false
is_lax due.Nothing = false

-- the reason of a word where this is due
abbrev pub reason_where : Words → IosReason → Due → List ℕ → IosReason
reason_where table lax due word = reason_of table lax (expected_of due) (is_lax due) word

-- the reason of a stop before this word, or behind the last one
abbrev pub reason_before : Words → IosReason → Due → Option (List ℕ) → IosReason
reason_before table lax due None = reason.BadEntry
reason_before table lax due (Some word) = reason_where table lax due word

-- the place of a stop among the words
abbrev pub place_of : Words → Stop → ℕ
place_of words stop = length words - stop.left

-- the reason of a stop among the words. The words that are not modelled and the reason of a lax line are those at its place
abbrev pub stop_reason : Words → IosReason → Words → Stop → IosReason
stop_reason table lax words stop =
    reason_before table lax stop.due (slice_get words (place_of words stop))

-- the words are at an end too early, or the first of them is none that may follow
pub data StopsBefore (Named : List ℕ → Type 0) (Line : Bool → Words → Type 0)
    (front : Words) (due : Due) : Words → Type 0 where
  short : Begins (Line false) front → (Line false front → ⊥) → StopsBefore Named Line front due []
  word : (word : List ℕ) (more : Words)
      → StopsAt Named Line front word (expected_of due) (is_lax due)
      → StopsBefore Named Line front due (word ∷ more)

-- the words stop to begin a line where so many are left
pub record IsStop (Named : List ℕ → Type 0) (Line : Bool → Words → Type 0)
    (words : Words) (stop : Stop) : Type 0 where
  pub front : Words
  pub back : Words
  pub whole : words ≡ front ++ back
  pub left : stop.left ≡ length back
  pub stops : StopsBefore Named Line front stop.due back

-- the words are some of the kind, and then these
abbrev pub BeginsWith : (Words → Type 0) → Words → Words → Type 0
BeginsWith Kind words rest = (front : Words) × (words ≡ front ++ rest) × Kind front

-- no words of the kind begin with the first of these
abbrev pub LacksFirst : (Words → Type 0) → Words → Type 0
LacksFirst Kind words =
    (word : List ℕ) (more : Words) → words ≡ word ∷ more → Begins Kind (word ∷ []) → ⊥

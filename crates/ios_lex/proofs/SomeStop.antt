-- Words that begin no line stop to begin one.
use Rattle.std.proofs.Common.{◌≡◌, ◌↔◌, ℕ, Bool, true, false, IsTrue, List, [], ◌∷◌, ◌++◌, refl, sym, ◌∙◌, append_assoc}
use Rattle.std.proofs.lemmas.List.{append-nil}
use Rattle.ios_lex.specs.Phrases.{Words}
use Rattle.ios_lex.specs.Following.{Begins, Expected, MayFollow, IsAddressWord, IsNumberWord, StopsAt}
use Rattle.ios_lex.proofs.FirstStops.{expected, unexpected}

-- no fact is neither true nor false
no_undecided : (P : Type 0) → ((holds : Bool) → IsTrue holds ↔ P → ⊥) → ⊥
no_undecided P none = none false (unexpected (λ p. none true (expected p)))

-- the words stop nowhere
abbrev pub IsUnstopped : (List ℕ → Type 0) → (Bool → Words → Type 0) → Words → Type 0
IsUnstopped Named Line words = (front more : Words) (word : List ℕ) (due : Expected) (over : Bool) → words ≡ front ++ word ∷ more → StopsAt Named Line front word due over → ⊥

-- a word with which no line goes on is where the words stop
stop_here : (Named : List ℕ → Type 0) (Line : Bool → Words → Type 0) (words front more : Words) (word : List ℕ) → words ≡ front ++ word ∷ more → Begins (Line false) front
    → IsUnstopped Named Line words → (Begins (Line false) (front ++ word ∷ []) → ⊥) → ⊥
stop_here Named Line words front more word whole begins unstopped stops =
    no_undecided (MayFollow (Line false) front IsAddressWord) (
    λ address is_address. no_undecided (MayFollow (Line false) front IsNumberWord) (
    λ number is_number. no_undecided (Line false front × MayFollow (Line false) front Named) (
    λ name is_name. no_undecided (Line false front) (
    λ ends is_whole. no_undecided (Begins (Line true) (front ++ word ∷ [])) (
    λ over is_over. unstopped front more word (record { address = address; number = number; name = name; whole = ends }) over whole (record {
      begins = begins;
      stops = stops;
      expected = record { address = is_address; number = is_number; name = is_name; whole = is_whole };
      lax = is_over;
    }))))))

stop_behind_front : (Named : List ℕ → Type 0) (Line : Bool → Words → Type 0) (words front more : Words) → words ≡ front ++ more → Begins (Line false) front → IsUnstopped Named Line words
    → (Begins (Line false) words → ⊥) → ⊥
stop_behind_front Named Line words front [] whole begins unstopped none = none (rw (whole, append-nil front) begins)
stop_behind_front Named Line words front (word ∷ more) whole begins unstopped none =
    stop_here Named Line words front more word whole begins unstopped (
    λ further. stop_behind_front Named Line words (front ++ word ∷ []) more (whole ∙ sym (append_assoc front (word ∷ []) more)) further unstopped none)

-- where a line begins at all, words begin one or stop
pub some_stop : (Named : List ℕ → Type 0) (Line : Bool → Words → Type 0) (words : Words) → Begins (Line false) [] → IsUnstopped Named Line words → (Begins (Line false) words → ⊥) → ⊥
some_stop Named Line words begins = stop_behind_front Named Line words [] words refl begins

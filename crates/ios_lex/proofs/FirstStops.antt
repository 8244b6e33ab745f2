-- Stops before the first of the words, and what may stand there.
use Rattle.std.proofs.Common.{◌≡◌, ◌↔◌, ℕ, Bool, true, false, List, [], ◌∷◌, ◌++◌, length, IsTrue, refl, sym, ◌∙◌}
use Rattle.std.specs.Str.{bytes_eq}
use Rattle.std.proofs.lemmas.Slice.Eq.{bytes_eq-Decides}
use Rattle.ios_lex.specs.declared.stop.Due.{Due}
use Rattle.ios_lex.specs.declared.stop.Due.TheVariants as due
use Rattle.ios_lex.specs.declared.stop.Stop.{Stop}
use Rattle.ios_lex.specs.Phrases.{Words}
use Rattle.ios_lex.specs.Following.{Begins, MayFollow, IsAddressWord, IsNumberWord, IsExpected}
use Rattle.ios_lex.specs.NextWords.{NoName}
use Rattle.ios_lex.specs.Stops as specs
use Rattle.ios_lex.specs.Stops.{expected_of, is_lax, LacksFirst, StopsBefore, IsStop}
use Rattle.ios_lex.proofs.Stopping.{stop_first}

-- the first word is a keyword, or another word
pub begins_with_text : (words rest : Words) (word text : List ℕ) → words ≡ word ∷ rest → bytes_eq word text ≡ true → words ≡ text ∷ rest
begins_with_text words rest word text whole same = let is = (bytes_eq-Decides word text).0 same in cc

-- what is expected holds, and what is not does not
pub expected : {P : Type 0} → P → IsTrue true ↔ P
expected holds = (λ _. holds, λ _. refl)

pub unexpected : {P : Type 0} → (P → ⊥) → IsTrue false ↔ P
unexpected fails = (λ h. absurd (cc), λ p. absurd (fails p))

-- no words are left, or the first of them begins none of the kind
pub lacks_none : (Kind : Words → Type 0) (words : Words) → words ≡ [] → LacksFirst Kind words
lacks_none Kind words none word more is begins = absurd (cc)

pub lacks_word : (Kind : Words → Type 0) (words rest : Words) (first : List ℕ) → words ≡ first ∷ rest → (Begins Kind (first ∷ []) → ⊥) → LacksFirst Kind words
lacks_word Kind words rest first whole none word more is begins = let same : word ≡ first = cc in none (rw same at begins)

-- no line begins with the first of the words, and where none are left, they are no line
pub stop_at : {Named : List ℕ → Type 0} (Line : Bool → Words → Type 0) (words : Words) (stop : Stop) (due : Due) → stop.left ≡ length words → stop.due ≡ due → is_lax due ≡ false
    → Begins (Line false) [] → IsExpected Named (Line false) [] (expected_of due) → (words ≡ [] → Line false [] → ⊥) → ((b : Bool) → LacksFirst (Line b) words)
    → IsStop Named Line words stop
stop_at {Named = Named} Line words stop due left is forward begins expects short lacks = stop_first Line words stop left (rw is (before words short lacks))
  where
    before : (words : Words) → (words ≡ [] → Line false [] → ⊥) → ((b : Bool) → LacksFirst (Line b) words) → StopsBefore Named Line [] due words
    before [] short lacks = specs.short begins (short refl)
    before (word ∷ more) short lacks = specs.word word more (record {
      begins = begins;
      stops = lacks false word more refl;
      expected = expects;
      lax = rw forward (unexpected (lacks true word more refl));
    })

-- where a line has to begin with an address, or with a keyword
pub stop_at_address : {Named : List ℕ → Type 0} (Line : Bool → Words → Type 0) (words : Words) (stop : Stop) → stop.left ≡ length words → stop.due ≡ due.Address
    → MayFollow (Line false) [] IsAddressWord → (MayFollow (Line false) [] IsNumberWord → ⊥) → (Line false [] → ⊥) → ((b : Bool) → LacksFirst (Line b) words)
    → IsStop Named Line words stop
stop_at_address Line words stop left is address number some lacks =
    stop_at Line words stop due.Address left is refl (address.0 ∷ address.2.0, address.2.1)
    (record { address = expected address; number = unexpected number; name = unexpected (λ h. some h.0); whole = unexpected some })
    (λ none. some) lacks

-- the same where the first word is an address, but none with which any but a lax line goes on
pub stop_at_lax_address : {Named : List ℕ → Type 0} (Line : Bool → Words → Type 0) (words rest : Words) (word : List ℕ) (stop : Stop) → words ≡ word ∷ rest → stop.left ≡ length words → stop.due ≡ due.Mask
    → MayFollow (Line false) [] IsAddressWord → (MayFollow (Line false) [] IsNumberWord → ⊥) → (Line false [] → ⊥)
    → (Begins (Line false) (word ∷ []) → ⊥) → Begins (Line true) (word ∷ []) → IsStop Named Line words stop
stop_at_lax_address Line words rest word stop whole left is address number some none lax =
    stop_first Line words stop left (rw (is, whole) (specs.word word rest (record {
      begins = (address.0 ∷ address.2.0, address.2.1);
      stops = none;
      expected = record { address = expected address; number = unexpected number; name = unexpected (λ h. some h.0); whole = unexpected some };
      lax = expected lax;
    })))

-- where a keyword has to stand
pub stop_at_keyword : {Named : List ℕ → Type 0} (Line : Bool → Words → Type 0) (words : Words) (stop : Stop) → stop.left ≡ length words → stop.due ≡ due.Keyword → Begins (Line false) [] → (Line false [] → ⊥)
    → ((word : List ℕ) → IsAddressWord word → Begins (Line false) (word ∷ []) → ⊥) → ((word : List ℕ) → IsNumberWord word → Begins (Line false) (word ∷ []) → ⊥)
    → ((b : Bool) → LacksFirst (Line b) words) → IsStop Named Line words stop
stop_at_keyword Line words stop left is begins some no_address no_number lacks =
    stop_at Line words stop due.Keyword left is refl begins
    (record {
      address = unexpected (λ h. no_address h.0 h.1 h.2);
      number = unexpected (λ h. no_number h.0 h.1 h.2);
      name = unexpected (λ h. some h.0);
      whole = unexpected some;
    })
    (λ none. some) lacks

-- where a line may end, and no word is looked up in a table of names
pub stop_at_end : (Line : Bool → Words → Type 0) (words : Words) (stop : Stop) → stop.left ≡ length words → stop.due ≡ due.Nothing → Line false []
    → ((word : List ℕ) → IsAddressWord word → Begins (Line false) (word ∷ []) → ⊥) → ((word : List ℕ) → IsNumberWord word → Begins (Line false) (word ∷ []) → ⊥)
    → (words ≡ [] → ⊥) → ((b : Bool) → LacksFirst (Line b) words) → IsStop NoName Line words stop
stop_at_end Line words stop left is ends no_address no_number some lacks =
    stop_at Line words stop due.Nothing left is refl ([], ends)
    (record {
      address = unexpected (λ h. no_address h.0 h.1 h.2);
      number = unexpected (λ h. no_number h.0 h.1 h.2);
      name = unexpected (λ h. h.1.1);
      whole = expected ends;
    })
    (λ none. absurd (some none)) lacks

-- where a line goes on behind its first word
pub stop_ahead : {Named : List ℕ → Type 0} (Line : Bool → Words → Type 0) (words rest : Words) (word : List ℕ) (stop : Stop) → words ≡ word ∷ rest → Begins (Line false) (word ∷ [])
    → IsStop Named Line words stop → IsStop Named (λ b x. Line b (word ∷ x)) rest stop
stop_ahead {Named = Named} Line words rest word stop whole begins stops = by_case stops.front (sym whole ∙ stops.whole) stops.stops
  where
    later : (front back : Words) → StopsBefore Named Line (word ∷ front) stop.due back → StopsBefore Named (λ b x. Line b (word ∷ x)) front stop.due back
    later front back (specs.short goes_on none) = specs.short goes_on none
    later front back (specs.word other more at) = specs.word other more (record {
      begins = at.begins;
      stops = at.stops;
      expected = record { address = at.expected.address; number = at.expected.number; name = at.expected.name; whole = at.expected.whole };
      lax = at.lax;
    })

    not_first : (back : Words) → back ≡ word ∷ rest → StopsBefore Named Line [] stop.due back → ⊥
    not_first back is (specs.short goes_on none) = absurd (cc)
    not_first back is (specs.word other more at) = let same : other ≡ word = cc in at.stops (rw same begins)

    by_case : (front : Words) → word ∷ rest ≡ front ++ stops.back → StopsBefore Named Line front stop.due stops.back → IsStop Named (λ b x. Line b (word ∷ x)) rest stop
    by_case [] is before = absurd (not_first stops.back (sym is) before)
    by_case (other ∷ front) is before =
        let same : other ≡ word = cc in
        record { front = front; back = stops.back; whole = cc; left = stops.left; stops = later front stops.back (rw same at before) }

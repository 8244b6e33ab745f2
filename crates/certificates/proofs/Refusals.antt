-- Why lines are no text, at the place where they are none.
use Rattle.std.proofs.Common.{◌≡◌, ◌⊎◌, inl, inr, ℕ, ◌+◌, List, [], ◌∷◌, ◌++◌, map, refl, sym, ap, ◌∙◌, append_assoc, length-append, arith}
use Rattle.std.proofs.lemmas.List.{length-map}
use Rattle.certificates.specs.declared.derivation.Item.{Item}
use Rattle.certificates.specs.declared.fault.CertFault.{CertFault}
use Rattle.certificates.specs.declared.fault.CertFault.TheVariants as fault
use Rattle.certificates.specs.Lines.{text_lines}
use Rattle.certificates.specs.Text.{head_word, item_text}
use Rattle.certificates.specs.Reading.{IsBeforeHead, IsKnownVersion, IsSomeVersion, Spells, GoesOn, IsMalformed, IsOtherVersion, Refuses}
use Rattle.certificates.specs.Reading as reading
use Rattle.certificates.specs.Parts.Places.{IsHeadAt, HasNoHead, IsHead, IsItemLine, AreItems, EndsItems, StopsItems, IsItemsFault}
use Rattle.certificates.specs.Parts.Places as places
use Rattle.certificates.proofs.HeadTexts.{head_is_one}
use Rattle.certificates.proofs.ItemLines.{no_items, bad_line, no_qed}
use Rattle.certificates.proofs.Spelled.{known_is_number, spells_from_parts, no_text_before_head, goes_on_before_head, goes_on_items, head_of, head_of_going}

pub reads_from_parts : (lines behind : List (List ℕ)) (words : List ℕ) (number version line : ℕ) (items : List Item) → IsHeadAt lines number words behind → IsHead words version line → IsKnownVersion version → EndsItems version behind items → Spells IsKnownVersion lines (record { line = line; derivation = items })
reads_from_parts lines behind words number version line items place is known ends =
    spells_from_parts IsKnownVersion lines place.skipped behind ends.behind words version line items place.whole place.before is known ends.are ends.whole

pub no_head_refused : (lines : List (List ℕ)) (number : ℕ) → HasNoHead lines number → IsMalformed lines number
no_head_refused lines number none =
    reading.end (goes_on_before_head lines none.before) (λ c spells. no_text_before_head IsKnownVersion lines c none.before spells) none.place

pub bad_head_refused : (lines behind : List (List ℕ)) (words : List ℕ) (number : ℕ) → IsHeadAt lines number words behind → ((version line : ℕ) → IsHead words version line → ⊥) → IsMalformed lines number
bad_head_refused lines behind words number place none =
    reading.at place.skipped (head_word ++ words) behind place.whole (goes_on_before_head place.skipped place.before)
    (λ goes. let head = head_of_going IsSomeVersion (λ v some. some) (place.skipped ++ (head_word ++ words) ∷ []) place.skipped [] words goes refl place.before in
    none head.version goes.certificate.line head.head)
    place.place

pub version_refused : (lines behind : List (List ℕ)) (words : List ℕ) (number version line : ℕ) → IsHeadAt lines number words behind → IsHead words version line → (IsKnownVersion version → ⊥) → IsOtherVersion lines number
version_refused lines behind words number version line place is unknown = record {
  front = place.skipped;
  head = head_word ++ words;
  behind = behind;
  whole = place.whole;
  goes_on = goes_on_before_head place.skipped place.before;
  some = goes_on_items IsSomeVersion (place.skipped ++ (head_word ++ words) ∷ []) place.skipped words version line [] refl place.before is is.some (no_items version);
  unknown = λ goes. let head = head_of_going IsKnownVersion known_is_number (place.skipped ++ (head_word ++ words) ∷ []) place.skipped [] words goes refl place.before in
      let same : head.version ≡ version = (head_is_one words head.version goes.certificate.line version line head.head is).0 in
      unknown (rw same at head.is_version);
  place = place.place;
}

pub items_refused : (lines behind : List (List ℕ)) (words : List ℕ) (number version line at : ℕ) → IsHeadAt lines number words behind → IsHead words version line → IsKnownVersion version → StopsItems version behind (number + 1) at → IsMalformed lines at
items_refused lines behind words number version line at place is known (places.at items bad more are whole none other here) =
    let front : List (List ℕ) = place.skipped ++ (head_word ++ words) ∷ map item_text items in
    reading.at front bad more
    (place.whole ∙ ap (λ b. place.skipped ++ (head_word ++ words) ∷ b) whole ∙ sym (simp append_assoc))
    (goes_on_items IsKnownVersion front place.skipped words version line items refl place.before is known are)
    (λ goes. stops goes)
    (simp (length-append, length-map) (omega (arith, place.place)))
  where
    stops : GoesOn IsSomeVersion ((place.skipped ++ (head_word ++ words) ∷ map item_text items) ++ bad ∷ []) → ⊥
    stops goes =
        let head = head_of_going IsSomeVersion (λ v some. some) ((place.skipped ++ (head_word ++ words) ∷ map item_text items) ++ bad ∷ []) place.skipped (map item_text items ++ bad ∷ []) words goes (simp append_assoc) place.before in
        let same : head.version ≡ version = (head_is_one words head.version goes.certificate.line version line head.head is).0 in
        let are' : AreItems version goes.certificate.derivation = rw same at head.are in
        bad_line version items goes.certificate.derivation bad goes.more head.after are are' none other (sym (simp append_assoc) ∙ head.whole)
items_refused lines behind words number version line at place is known (places.end items are whole here) =
    reading.end (goes_on_items IsKnownVersion lines place.skipped words version line items (place.whole ∙ ap (λ b. place.skipped ++ (head_word ++ words) ∷ b) whole) place.before is known are)
    (λ c spells. let head = head_of IsKnownVersion known_is_number lines place.skipped behind words c place.whole place.before spells in
    no_qed items c.derivation head.after are.writable (sym whole ∙ head.whole))
    (rw (place.whole, whole) (simp (length-append, length-map) (omega (arith, place.place))))

-- a fault in the items is one of the text
pub items_fault : (bytes : List ℕ) (behind : List (List ℕ)) (words : List ℕ) (number version line : ℕ) (why : CertFault) → IsHeadAt (text_lines bytes) number words behind → IsHead words version line → IsKnownVersion version → IsItemsFault version behind (number + 1) why → (why ≡ fault.NoMemory) ⊎ Refuses bytes why
items_fault bytes behind words number version line (fault.Malformed at) place is known stops = inr (items_refused (text_lines bytes) behind words number version line at place is known stops)
items_fault bytes behind words number version line (fault.Version at) place is known stops = absurd stops
items_fault bytes behind words number version line fault.NoMemory place is known stops = inl refl

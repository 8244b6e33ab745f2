-- Which lines are a certificate's, by their head and their items.
use Rattle.std.proofs.Common.{◌≡◌, inl, inr, ℕ, List, [], ◌∷◌, ◌++◌, map, refl, sym, ap, ◌∙◌, append_assoc, append-nil, arith}
use Rattle.std.specs.Fmt.{decimal}
use Rattle.std.specs.List.{All}
use Rattle.std.proofs.lemmas.List.Elements.{All-nil}
use Rattle.certificates.specs.declared.derivation.Item.{Item}
use Rattle.certificates.specs.declared.derivation.Certificate.{Certificate}
use Rattle.certificates.specs.Writable.{IsWritableItem}
use Rattle.certificates.specs.Text.{head_word, head_text, item_text, qed_text, certificate_lines}
use Rattle.certificates.specs.Reading.{IsBeforeHead, IsItemOf, IsKnownVersion, IsSomeVersion, Spells, GoesOn}
use Rattle.certificates.specs.Parts.Places.{IsHead, AreItems}
use Rattle.certificates.proofs.HeadTexts.{head_begins}
use Rattle.certificates.proofs.Heads.{heads_agree, no_head_among}

-- some version is a number
abbrev pub IsVersionNumber : (ℕ → Type 0) → Type 0
IsVersionNumber IsVersion = (version : ℕ) → IsVersion version → IsSomeVersion version

pub known_is_number : IsVersionNumber IsKnownVersion
known_is_number version (inl one) = omega arith
known_is_number version (inr two) = omega arith

-- the lines of a certificate are its head, its items and qed
pub lines_of : (version : ℕ) (certificate : Certificate) (behind : List (List ℕ)) → certificate_lines version certificate ++ behind ≡ (head_word ++ (decimal version ++ 32 ∷ decimal certificate.line)) ∷ (map item_text certificate.derivation ++ qed_text ∷ behind)
lines_of version certificate behind =
    ap (λ h. h ∷ ((map item_text certificate.derivation ++ qed_text ∷ []) ++ behind)) (head_begins version certificate.line)
    ∙ ap (λ l. (head_word ++ (decimal version ++ 32 ∷ decimal certificate.line)) ∷ l) (simp append_assoc)

-- a head, items and qed are the text of their certificate
pub spells_from_parts : (IsVersion : ℕ → Type 0) (lines skipped behind after : List (List ℕ)) (words : List ℕ) (version line : ℕ) (items : List Item)
    → lines ≡ skipped ++ (head_word ++ words) ∷ behind → All IsBeforeHead skipped → IsHead words version line → IsVersion version → AreItems version items → behind ≡ map item_text items ++ qed_text ∷ after
    → Spells IsVersion lines (record { line = line; derivation = items })
spells_from_parts IsVersion lines skipped behind after words version line items whole before is known are ends = record {
  version = version;
  skipped = skipped;
  behind = after;
  whole = whole ∙ ap (λ b. skipped ++ (head_word ++ words) ∷ b) ends
      ∙ ap (λ h. skipped ++ h ∷ (map item_text items ++ qed_text ∷ after)) is.text
      ∙ ap (λ l. skipped ++ head_text version line ∷ l) (sym (simp append_assoc));
  before = before;
  is_version = known;
  writable = record { line = is.small; items = are.writable };
  items = are.of_version;
}

-- what a text is whose first head stands here
pub record HeadOf (IsVersion : ℕ → Type 0) (words : List ℕ) (behind : List (List ℕ)) (certificate : Certificate) : Type 0 where
  pub version : ℕ
  pub head : IsHead words version certificate.line
  pub is_version : IsVersion version
  pub are : AreItems version certificate.derivation
  pub after : List (List ℕ)
  pub whole : behind ≡ map item_text certificate.derivation ++ qed_text ∷ after

pub head_of : (IsVersion : ℕ → Type 0) → IsVersionNumber IsVersion → (lines skipped behind : List (List ℕ)) (words : List ℕ) (certificate : Certificate)
    → lines ≡ skipped ++ (head_word ++ words) ∷ behind → All IsBeforeHead skipped → Spells IsVersion lines certificate → HeadOf IsVersion words behind certificate
head_of IsVersion numbers lines skipped behind words certificate whole before spells =
    let agree = heads_agree skipped spells.skipped behind (map item_text certificate.derivation ++ qed_text ∷ spells.behind) words (decimal spells.version ++ 32 ∷ decimal certificate.line) before spells.before
    (sym whole ∙ spells.whole ∙ ap (λ l. spells.skipped ++ l) (lines_of spells.version certificate spells.behind)) in
    record {
      version = spells.version;
      head = record { some = numbers spells.version spells.is_version; small = spells.writable.line; text = agree.1 ∙ sym (head_begins spells.version certificate.line) };
      is_version = spells.is_version;
      are = record { writable = spells.writable.items; of_version = spells.items };
      after = spells.behind;
      whole = agree.2;
    }

-- lines before the head are no text
pub no_text_before_head : (IsVersion : ℕ → Type 0) (lines : List (List ℕ)) (certificate : Certificate) → All IsBeforeHead lines → Spells IsVersion lines certificate → ⊥
no_text_before_head IsVersion lines certificate before spells =
    no_head_among lines spells.skipped (map item_text certificate.derivation ++ qed_text ∷ spells.behind) (decimal spells.version ++ 32 ∷ decimal certificate.line) before
    (spells.whole ∙ ap (λ l. spells.skipped ++ l) (lines_of spells.version certificate spells.behind))

-- before the head a text goes on
pub goes_on_before_head : (skipped : List (List ℕ)) → All IsBeforeHead skipped → GoesOn IsKnownVersion skipped
goes_on_before_head skipped before = record {
  more = certificate_lines 2 none;
  certificate = none;
  spells = record {
    version = 2;
    skipped = skipped;
    behind = [];
    whole = ap (λ l. skipped ++ l) (sym (append-nil (certificate_lines 2 none)));
    before = before;
    is_version = inr refl;
    writable = record { line = omega arith; items = All-nil IsWritableItem };
    items = All-nil (IsItemOf 2);
  };
}
  where
    none : Certificate
    none = record { line = 0; derivation = [] }

-- behind a head and items it goes on
pub goes_on_items : (IsVersion : ℕ → Type 0) (lines skipped : List (List ℕ)) (words : List ℕ) (version line : ℕ) (items : List Item)
    → lines ≡ skipped ++ (head_word ++ words) ∷ map item_text items → All IsBeforeHead skipped → IsHead words version line → IsVersion version → AreItems version items → GoesOn IsVersion lines
goes_on_items IsVersion lines skipped words version line items whole before is known are = record {
  more = qed_text ∷ [];
  certificate = record { line = line; derivation = items };
  spells = spells_from_parts IsVersion (lines ++ qed_text ∷ []) skipped (map item_text items ++ qed_text ∷ []) [] words version line items
      (ap (λ l. l ++ qed_text ∷ []) whole ∙ simp append_assoc) before is known are refl;
}

-- what the first head is, where a text goes on behind it
pub head_of_going : (IsVersion : ℕ → Type 0) → IsVersionNumber IsVersion → (lines skipped behind : List (List ℕ)) (words : List ℕ) (goes : GoesOn IsVersion lines)
    → lines ≡ skipped ++ (head_word ++ words) ∷ behind → All IsBeforeHead skipped → HeadOf IsVersion words (behind ++ goes.more) goes.certificate
head_of_going IsVersion numbers lines skipped behind words goes whole before =
    head_of IsVersion numbers (lines ++ goes.more) skipped (behind ++ goes.more) words goes.certificate (ap (λ l. l ++ goes.more) whole ∙ simp append_assoc) before goes.spells

-- A text is one certificate's, or is refused once.
use Rattle.std.proofs.Common.{◌≡◌, ℕ, ◌+◌, List, [], ◌∷◌, ◌++◌, length, map, refl, sym, ap, ◌∙◌, append_assoc, append-nil, arith}
use Rattle.std.specs.Fmt.{decimal}
use Rattle.std.specs.List.{All}
use Rattle.std.proofs.lemmas.List.Elements.{All-nil, All-cons}
use Rattle.certificates.specs.declared.derivation.Item.{Item}
use Rattle.certificates.specs.declared.derivation.Certificate.{Certificate}
use Rattle.certificates.specs.declared.fault.CertFault.{CertFault}
use Rattle.certificates.specs.declared.fault.CertFault.TheVariants as fault
use Rattle.certificates.specs.Lines.{text_lines}
use Rattle.certificates.specs.Text.{item_text, qed_text}
use Rattle.certificates.specs.Reading.{IsBeforeHead, IsKnownVersion, IsSomeVersion, Spells, GoesOn, Reads, IsMalformed, at, end, IsOtherVersion, Refuses}
use Rattle.certificates.specs.Parts.Places.{IsHeadAt, HasNoHead, IsHead, IsItemLine, AreItems, EndsItems, StopsItems}
use Rattle.certificates.specs.Parts.Places as places
use Rattle.certificates.proofs.HeadTexts.{head_is_one}
use Rattle.certificates.proofs.ItemLines.{no_items, item_before, items_agree}
use Rattle.certificates.proofs.Spelled.{known_is_number, head_of, lines_of}
use Rattle.certificates.proofs.Refusals.{reads_from_parts, no_head_refused, bad_head_refused, version_refused, items_refused}

-- what goes on goes on before its end, and where more versions are allowed
goes_on_front : (IsVersion : ℕ → Type 0) (front back : List (List ℕ)) → GoesOn IsVersion (front ++ back) → GoesOn IsVersion front
goes_on_front IsVersion front back goes = record {
  more = back ++ goes.more;
  certificate = goes.certificate;
  spells = rw (sym (append_assoc front back goes.more)) goes.spells;
}

goes_on_weaker : (lines : List (List ℕ)) → GoesOn IsKnownVersion lines → GoesOn IsSomeVersion lines
goes_on_weaker lines goes = record {
  more = goes.more;
  certificate = goes.certificate;
  spells = record {
    version = goes.spells.version;
    skipped = goes.spells.skipped;
    behind = goes.spells.behind;
    whole = goes.spells.whole;
    before = goes.spells.before;
    is_version = known_is_number goes.spells.version goes.spells.is_version;
    writable = goes.spells.writable;
    items = goes.spells.items;
  };
}

text_goes_on : (lines : List (List ℕ)) (certificate : Certificate) → Spells IsKnownVersion lines certificate → GoesOn IsKnownVersion lines
text_goes_on lines certificate spells = record { more = []; certificate = certificate; spells = rw (append-nil lines) spells }

-- the first line with which no text of a known version goes on
record IsFirstBad (lines front : List (List ℕ)) (bad : List ℕ) : Type 0 where
  behind : List (List ℕ)
  whole : lines ≡ front ++ bad ∷ behind
  goes_on : GoesOn IsKnownVersion front
  stops : GoesOn IsKnownVersion (front ++ bad ∷ []) → ⊥

goes_on_past : (lines front : List (List ℕ)) (bad : List ℕ) → IsFirstBad lines front bad → GoesOn IsKnownVersion lines → ⊥
goes_on_past lines front bad first goes =
    let whole : lines ≡ (front ++ bad ∷ []) ++ first.behind = first.whole ∙ sym (simp append_assoc) in
    first.stops (goes_on_front IsKnownVersion (front ++ bad ∷ []) first.behind (rw whole at goes))

-- two fronts of the same lines: the same, or one of them goes on with the line behind the other
data Fronts (front : List (List ℕ)) (bad : List ℕ) (front' : List (List ℕ)) (bad' : List ℕ) : Type 0 where
  same : front ≡ front' → bad ≡ bad' → Fronts front bad front' bad'
  longer : (between : List (List ℕ)) → front' ≡ (front ++ bad ∷ []) ++ between → Fronts front bad front' bad'
  shorter : (between : List (List ℕ)) → front ≡ (front' ++ bad' ∷ []) ++ between → Fronts front bad front' bad'

fronts : (front front' behind behind' : List (List ℕ)) (bad bad' : List ℕ) → front ++ bad ∷ behind ≡ front' ++ bad' ∷ behind' → Fronts front bad front' bad'
fronts [] [] behind behind' bad bad' whole = same refl (cc)
fronts [] (l ∷ front') behind behind' bad bad' whole = let first : bad ≡ l = cc in longer front' (ap (λ l. l ∷ front') (sym first))
fronts (l ∷ front) [] behind behind' bad bad' whole = let first : bad' ≡ l = cc in shorter front (ap (λ l. l ∷ front) (sym first))
fronts (l ∷ front) (k ∷ front') behind behind' bad bad' whole =
    let first : l ≡ k = cc in
    let tails : front ++ bad ∷ behind ≡ front' ++ bad' ∷ behind' = cc in
    one_more l k first (fronts front front' behind behind' bad bad' tails)
  where
    one_more : (l k : List ℕ) → l ≡ k → Fronts front bad front' bad' → Fronts (l ∷ front) bad (k ∷ front') bad'
    one_more l k first (same f b) = same (cc) b
    one_more l k first (longer between f) = longer between (cc)
    one_more l k first (shorter between f) = shorter between (cc)

first_bad_is_one : (lines front front' : List (List ℕ)) (bad bad' : List ℕ) → IsFirstBad lines front bad → IsFirstBad lines front' bad' → (front ≡ front') × (bad ≡ bad')
first_bad_is_one lines front front' bad bad' first second =
    by_fronts (fronts front front' first.behind second.behind bad bad' (sym first.whole ∙ second.whole))
  where
    by_fronts : Fronts front bad front' bad' → (front ≡ front') × (bad ≡ bad')
    by_fronts (same f b) = (f, b)
    by_fronts (longer between f) = absurd (first.stops (goes_on_front IsKnownVersion (front ++ bad ∷ []) between (rw f at second.goes_on)))
    by_fronts (shorter between f) = absurd (second.stops (goes_on_front IsKnownVersion (front' ++ bad' ∷ []) between (rw f at first.goes_on)))

bad_at : (lines front behind : List (List ℕ)) (bad : List ℕ) → lines ≡ front ++ bad ∷ behind → GoesOn IsKnownVersion front → (GoesOn IsSomeVersion (front ++ bad ∷ []) → ⊥) → IsFirstBad lines front bad
bad_at lines front behind bad whole goes none = record { behind = behind; whole = whole; goes_on = goes; stops = λ more. none (goes_on_weaker (front ++ bad ∷ []) more) }

bad_version : (lines : List (List ℕ)) (line : ℕ) (is : IsOtherVersion lines line) → IsFirstBad lines is.front is.head
bad_version lines line is = record { behind = is.behind; whole = is.whole; goes_on = is.goes_on; stops = is.unknown }

malformed_is_no_text : (lines : List (List ℕ)) (line : ℕ) (c : Certificate) → IsMalformed lines line → Spells IsKnownVersion lines c → ⊥
malformed_is_no_text lines line c (at front bad behind whole goes none here) spells =
    goes_on_past lines front bad (bad_at lines front behind bad whole goes none) (text_goes_on lines c spells)
malformed_is_no_text lines line c (end goes none here) spells = none c spells

-- a text is not refused
pub not_both : (bytes : List ℕ) (c : Certificate) (why : CertFault) → Reads bytes c → Refuses bytes why → ⊥
not_both bytes c (fault.Malformed line) reads refuses = malformed_is_no_text (text_lines bytes) line c refuses reads
not_both bytes c (fault.Version line) reads refuses =
    goes_on_past (text_lines bytes) refuses.front refuses.head (bad_version (text_lines bytes) line refuses) (text_goes_on (text_lines bytes) c reads)
not_both bytes c fault.NoMemory reads refuses = refuses

malformed_at_one : (lines : List (List ℕ)) (line line' : ℕ) → IsMalformed lines line → IsMalformed lines line' → line ≡ line'
malformed_at_one lines line line' (at front bad behind whole goes none here) (at front' bad' behind' whole' goes' none' here') =
    let ones = first_bad_is_one lines front front' bad bad' (bad_at lines front behind bad whole goes none) (bad_at lines front' behind' bad' whole' goes' none') in
    here ∙ ap (λ f. length f + 1) ones.0 ∙ sym here'
malformed_at_one lines line line' (at front bad behind whole goes none here) (end goes' none' here') =
    absurd (goes_on_past lines front bad (bad_at lines front behind bad whole goes none) goes')
malformed_at_one lines line line' (end goes none here) (at front' bad' behind' whole' goes' none' here') =
    absurd (goes_on_past lines front' bad' (bad_at lines front' behind' bad' whole' goes' none') goes)
malformed_at_one lines line line' (end goes none here) (end goes' none' here') = here ∙ sym here'

one_reason : (lines : List (List ℕ)) (line line' : ℕ) → IsMalformed lines line → IsOtherVersion lines line' → ⊥
one_reason lines line line' (at front bad behind whole goes none here) is =
    let ones = first_bad_is_one lines front is.front bad is.head (bad_at lines front behind bad whole goes none) (bad_version lines line' is) in
    let begins : front ++ bad ∷ [] ≡ is.front ++ is.head ∷ [] = cc (ones.0, ones.1) in
    none (rw begins is.some)
one_reason lines line line' (end goes none here) is = goes_on_past lines is.front is.head (bad_version lines line' is) goes

-- bytes are refused once
pub same_fault : (bytes : List ℕ) (first second : CertFault) → Refuses bytes first → Refuses bytes second → first ≡ second
same_fault bytes (fault.Malformed line) (fault.Malformed line') is is' = ap (λ l. fault.Malformed l) (malformed_at_one (text_lines bytes) line line' is is')
same_fault bytes (fault.Malformed line) (fault.Version line') is is' = absurd (one_reason (text_lines bytes) line line' is is')
same_fault bytes (fault.Malformed line) fault.NoMemory is is' = absurd is'
same_fault bytes (fault.Version line) (fault.Malformed line') is is' = absurd (one_reason (text_lines bytes) line' line is' is)
same_fault bytes (fault.Version line) (fault.Version line') is is' =
    let ones = first_bad_is_one (text_lines bytes) is.front is'.front is.head is'.head (bad_version (text_lines bytes) line is) (bad_version (text_lines bytes) line' is') in
    ap (λ l. fault.Version l) (is.place ∙ ap (λ f. length f + 1) ones.0 ∙ sym is'.place)
same_fault bytes (fault.Version line) fault.NoMemory is is' = absurd is'
same_fault bytes fault.NoMemory second is is' = absurd is

-- bytes are the text of one certificate
certificate_from_parts : (c d : Certificate) → c.line ≡ d.line → c.derivation ≡ d.derivation → c ≡ d
certificate_from_parts c d line derivation =
    let certificate : ℕ → List Item → Certificate = λ n items. record { line = n; derivation = items } in
    ap (λ n. certificate n c.derivation) line ∙ ap (λ items. certificate d.line items) derivation

pub same_certificate : (bytes : List ℕ) (first second : Certificate) → Reads bytes first → Reads bytes second → first ≡ second
same_certificate bytes c d reads reads' =
    let words : List ℕ = decimal reads.version ++ 32 ∷ decimal c.line in
    let behind : List (List ℕ) = map item_text c.derivation ++ qed_text ∷ reads.behind in
    let whole = reads.whole ∙ ap (λ l. reads.skipped ++ l) (lines_of reads.version c reads.behind) in
    let own = head_of IsKnownVersion known_is_number (text_lines bytes) reads.skipped behind words c whole reads.before reads in
    let other = head_of IsKnownVersion known_is_number (text_lines bytes) reads.skipped behind words d whole reads.before reads' in
    let heads = head_is_one words own.version c.line other.version d.line own.head other.head in
    let version = heads.0 in
    let are' : AreItems own.version d.derivation = rw version other.are in
    certificate_from_parts c d heads.1 (items_agree own.version c.derivation d.derivation own.after other.after own.are are' (sym own.whole ∙ other.whole))

-- lines end as items do, or stop
ends_or_stops : (version first : ℕ) (lines : List (List ℕ)) → ((items : List Item) → EndsItems version lines items → ⊥) → ((number : ℕ) → StopsItems version lines first number → ⊥) → ⊥
ends_or_stops version first [] no_end no_stop = no_stop first (places.end [] (no_items version) refl (omega arith))
ends_or_stops version first (l ∷ lines) no_end no_stop =
    no_stop first (places.at [] l lines (no_items version) refl
    (λ i is. ends_or_stops version (first + 1) lines (λ items ends. no_end (i ∷ items) (end_more i items is ends)) (λ number stops. no_stop number (stop_more i number is stops)))
    (λ qed. no_end [] (record { are = no_items version; behind = lines; whole = ap (λ l. l ∷ lines) qed }))
    (omega arith))
  where
    end_more : (i : Item) (items : List Item) → IsItemLine version l i → EndsItems version lines items → EndsItems version (l ∷ lines) (i ∷ items)
    end_more i items is ends = record { are = item_before version l i items is ends.are; behind = ends.behind; whole = cc (is.text, ends.whole) }

    stop_more : (i : Item) (number : ℕ) → IsItemLine version l i → StopsItems version lines (first + 1) number → StopsItems version (l ∷ lines) first number
    stop_more i number is (places.at items bad behind are whole none other here) =
        places.at (i ∷ items) bad behind (item_before version l i items is are) (cc (is.text, whole)) none other (omega (arith, here))
    stop_more i number is (places.end items are whole here) =
        places.end (i ∷ items) (item_before version l i items is are) (cc (is.text, whole)) (omega (arith, here))

-- where no line begins as a head does, all stand before it
all_before : (lines : List (List ℕ)) → ((number : ℕ) (words : List ℕ) (behind : List (List ℕ)) → IsHeadAt lines number words behind → ⊥) → All IsBeforeHead lines
all_before [] none = All-nil IsBeforeHead
all_before (l ∷ lines) none =
    let first : IsBeforeHead l = λ rest begins. none 1 rest lines (record { skipped = []; whole = ap (λ l. l ∷ lines) begins; before = All-nil IsBeforeHead; place = refl }) in
    All-cons IsBeforeHead l lines first (all_before lines (λ number words behind is. none (number + 1) words behind (record {
      skipped = l ∷ is.skipped;
      whole = ap (λ ls. l ∷ ls) is.whole;
      before = All-cons IsBeforeHead l is.skipped first is.before;
      place = omega (arith, is.place);
    })))

-- bytes are a text or are refused
pub not_neither : (bytes : List ℕ) → ((c : Certificate) → Reads bytes c → ⊥) → ((why : CertFault) → Refuses bytes why → ⊥) → ⊥
not_neither bytes none accepted =
    accepted (fault.Malformed (length (text_lines bytes) + 1)) (no_head_refused (text_lines bytes) (length (text_lines bytes) + 1) (record {
      before = all_before (text_lines bytes) (λ number words behind place.
          accepted (fault.Malformed number) (bad_head_refused (text_lines bytes) behind words number place (λ version line is.
          accepted (fault.Version number) (version_refused (text_lines bytes) behind words number version line place is (λ known.
          ends_or_stops version (number + 1) behind
          (λ items ends. none (record { line = line; derivation = items }) (reads_from_parts (text_lines bytes) behind words number version line items place is known ends))
          (λ at stops. accepted (fault.Malformed at) (items_refused (text_lines bytes) behind words number version line at place is known stops)))))));
      place = refl;
    }))

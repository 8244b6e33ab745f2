-- Entries that are read in the order of their numbers come behind those before.
use Rattle.std.proofs.Common.{◌≡◌, ℕ, ◌<◌, ◌≤◌, nat_lt, Bool, false, List, [], ◌∷◌, ◌++◌, length, map, Some, refl, sym, ap, subst, append_assoc, length-append, arith}
use Rattle.std.specs.Fmt.{decimal}
use Rattle.std.specs.List.{AllByRecursion, filter}
use Rattle.std.proofs.lemmas.Bool.{lt-ltb, le-ltb, ne_eqb}
use Rattle.std.proofs.lemmas.List.{append-nil}
use Rattle.ios_lex.proofs.DecimalTexts.{decimal_number}
use Rattle.ios_acl.specs.declared.entry.Entry.{Entry}
use Rattle.ios_acl.specs.List.{AccessList, with_entry, has_number, greatest_sequence, most_entries, IsRising, IsWritable}
use Rattle.ios_acl.specs.Reading.{IsOpened, IsNumberOf, Reads}
use Rattle.ios_acl.specs.Block.{ReadsAll}
use Rattle.ios_acl.specs.Spelling.{sentence_words, entry_words}
use Rattle.ios_acl.proofs.WrittenEntries.{sentence_is_entry}

abbrev AreBelow : ℕ → List Entry → Type 0
AreBelow n entries = AllByRecursion (λ (e : Entry). e.number < n) entries

above_there : (n : ℕ) (front : List Entry) (e : Entry) (back : List Entry) → AllByRecursion (λ (other : Entry). n < other.number) (front ++ e ∷ back) → n < e.number
above_there n [] e back above = above.0
above_there n (first ∷ front) e back above = above_there n front e back above.1

-- the entries before one have smaller numbers
rising_below : (front : List Entry) (e : Entry) (back : List Entry) → IsRising (front ++ e ∷ back) → AreBelow e.number front
rising_below [] e back rising = tt
rising_below (first ∷ front) e back rising = (above_there first.number front e back rising.0, rising_below front e back rising.1)

below_stay : (n : ℕ) (entries : List Entry) → AreBelow n entries → filter (λ (e : Entry). nat_lt e.number n) entries ≡ entries
below_stay n [] below = refl
below_stay n (e ∷ entries) below = rw (lt-ltb e.number n below.0) (ap (λ es. e ∷ es) (below_stay n entries below.1))

none_above : (n : ℕ) (entries : List Entry) → AreBelow n entries → filter (λ (e : Entry). nat_lt n e.number) entries ≡ []
none_above n [] below = refl
none_above n (e ∷ entries) below = rw (le-ltb n e.number (omega (arith, below.0))) (none_above n entries below.1)

not_had : (n : ℕ) (entries : List Entry) → AreBelow n entries → has_number entries n ≡ false
not_had n [] below = refl
not_had n (e ∷ entries) below = rw (ne_eqb e.number n (λ same. omega (arith, same, below.0))) (not_had n entries below.1)

abbrev pub list_of : List ℕ → Bool → List Entry → AccessList
list_of name extended entries = record { name = name; extended = extended; entries = entries }

with_last : (name : List ℕ) (extended : Bool) (entries : List Entry) (e : Entry) → AreBelow e.number entries → list_of name extended (entries ++ e ∷ []) ≡ with_entry (list_of name extended entries) e
with_last name extended entries e below = rw (below_stay e.number entries below, none_above e.number entries below) refl

reads_last : (name : List ℕ) (extended : Bool) (entries : List Entry) (e : Entry) → AreBelow e.number entries → IsWritable extended e → length entries < most_entries
    → Reads (list_of name extended entries) (entry_words extended e) (list_of name extended (entries ++ e ∷ []))
reads_last name extended entries e below writable room =
    Reads.entry (Some e.number) (sentence_words extended e) e
    (IsOpened.numbered (decimal e.number) e.number refl (record { number = decimal_number greatest_sequence e.number (omega (arith, writable.small)) writable.small; some = writable.some }) refl)
    (sentence_is_entry extended e writable)
    (IsNumberOf.given refl (not_had e.number entries below))
    writable.small room (with_last name extended entries e below)

pub reads_rest : (name : List ℕ) (extended : Bool) (front back : List Entry) → IsRising (front ++ back) → length (front ++ back) ≤ most_entries → AllByRecursion (IsWritable extended) back
    → ReadsAll (list_of name extended front) (map (entry_words extended) back) (list_of name extended (front ++ back))
reads_rest name extended front [] rising few all = rw (append-nil front) (ReadsAll.end (list_of name extended front))
reads_rest name extended front (e ∷ back) rising few all =
    let same : (front ++ e ∷ []) ++ back ≡ front ++ e ∷ back = append_assoc front (e ∷ []) back in
    let room : length front < most_entries = omega (arith, few, length-append {A = Entry} front (e ∷ back)) in
    ReadsAll.line (list_of name extended front) (list_of name extended (front ++ e ∷ [])) (list_of name extended (front ++ e ∷ back)) (entry_words extended e) (map (entry_words extended) back)
    (reads_last name extended front e (rising_below front e back rising) all.0 room)
    (subst (λ (es : List Entry). ReadsAll (list_of name extended (front ++ e ∷ [])) (map (entry_words extended) back) (list_of name extended es)) same
    (reads_rest name extended (front ++ e ∷ []) back (subst IsRising (sym same) rising) (subst (λ (es : List Entry). length es ≤ most_entries) (sym same) few) all.1))

-- The words of a line have a reading or a refusal.
use Rattle.std.proofs.Common.{◌≡◌, ◌⊎◌, inl, inr, ℕ, ◌<◌, ◌≤◌, Bool, true, false, List, [], ◌∷◌, length, Option, Some, None, codes, refl, sym}
use Rattle.std.proofs.lemmas.Bool.{cases_lt}
use Rattle.ios_lex.specs.declared.reason.IosReason.{IosReason}
use Rattle.ios_lex.specs.declared.reason.IosReason.TheVariants as reason
use Rattle.ios_lex.specs.Phrases.{Words}
use Rattle.ios_lex.specs.Following.{Begins}
use Rattle.ios_lex.specs.Names.{IsMessageName}
use Rattle.ios_lex.proofs.SomeStop.{some_stop}
use Rattle.ios_acl.specs.declared.entry.Entry.{Entry}
use Rattle.ios_acl.specs.Grammar.{IsEntry, IsSentence}
use Rattle.ios_acl.specs.List.{AccessList, with_entry, next_number, has_number, greatest_sequence, most_entries}
use Rattle.ios_acl.specs.Reading.{IsOpened, IsSequence, IsNumberOf, Reads, Sentence, IsTaken, IsRefused}
use Rattle.ios_acl.specs.Refusal.{reason_at}
use Rattle.ios_acl.specs.Adding.{with_number}
use Rattle.ios_acl.proofs.Insertion.{spelled_numbered}
use Rattle.ios_acl.proofs.OneEntry.{entry_begins}

-- a line begins with a number or without one
no_unopened : (words : Words) → ((number : Option ℕ) (rest : Words) → IsOpened words number rest → ⊥) → ⊥
no_unopened [] none = none None [] (IsOpened.plain refl (λ word n more whole is. cc) refl)
no_unopened (first ∷ rest) none = none None (first ∷ rest) (IsOpened.plain refl numbered refl)
  where
    numbered : (word : List ℕ) (n : ℕ) (more : Words) → first ∷ rest ≡ word ∷ more → IsSequence word n → ⊥
    numbered word n more whole is = none (Some n) more (IsOpened.numbered word n whole is refl)

-- the number of an entry that is written with one is small enough
number_is_small : (words : Words) (number : Option ℕ) (rest : Words) (n : ℕ) → IsOpened words number rest → number ≡ Some n → n ≤ greatest_sequence
number_is_small words number rest n (IsOpened.numbered word m whole is given) same = let one : m ≡ n = cc in rw (sym one) is.number.within
number_is_small words number rest n (IsOpened.plain whole none given) same = absurd (cc)

-- a list that neither reads the line nor refuses it
record IsLost (list : AccessList) (words : Words) : Type 0 where
  pub unread : (new : AccessList) → Reads list words new → ⊥
  pub unrefused : (why : IosReason) → IsRefused list words why → ⊥

no_numbered : (list : AccessList) (words : Words) (number : Option ℕ) (rest : Words) (e : Entry) (n : ℕ) → IsLost list words → IsOpened words number rest
    → IsEntry list.extended false e rest → IsNumberOf list.entries number n → n ≤ greatest_sequence → ⊥
no_numbered list words number rest e n lost opened is numbered small = by (cases_lt (length list.entries) most_entries)
  where
    spelled : IsEntry list.extended false (with_number e n) rest
    spelled = spelled_numbered list.extended false e n rest is

    by : (length list.entries < most_entries) ⊎ (most_entries ≤ length list.entries) → ⊥
    by (inl room) = lost.unread (with_entry list (with_number e n)) (Reads.entry number rest (with_number e n) opened spelled numbered small room refl)
    by (inr many) = lost.unrefused reason.TooMany (IsRefused.full number rest (with_number e n) opened spelled numbered small many)

-- where an entry is spelled, the list reads it, or its number is taken or too great, or the list is full
no_entry : (list : AccessList) (words : Words) (number : Option ℕ) (rest : Words) (e : Entry) → IsLost list words → IsOpened words number rest
    → IsEntry list.extended false e rest → ⊥
no_entry list words None rest e lost opened is = by (cases_lt greatest_sequence (next_number list.entries))
  where
    by : (greatest_sequence < next_number list.entries) ⊎ (next_number list.entries ≤ greatest_sequence) → ⊥
    by (inl over) = lost.unrefused reason.BadNumber (IsRefused.overflow rest e opened is over)
    by (inr small) = no_numbered list words None rest e (next_number list.entries) lost opened is (IsNumberOf.next refl refl) small
no_entry list words (Some n) rest e lost opened is = by (has_number list.entries n) refl
  where
    by : (has : Bool) → has_number list.entries n ≡ has → ⊥
    by true has =
        let begins = entry_begins list.extended false e rest is in
        lost.unrefused reason.DuplicateSequence (IsRefused.taken (Some n) rest opened (record { n = n; verdict = e.verdict; more = begins.0; given = refl; has = has; begins = begins.1 }))
    by false free =
        no_numbered list words (Some n) rest e n lost opened is (IsNumberOf.given refl free) (number_is_small words (Some n) rest n opened refl)

no_sentence : (list : AccessList) (words : Words) (number : Option ℕ) (rest : Words) (line : Option Entry) → IsLost list words → IsOpened words number rest
    → IsSentence list.extended false rest line → ⊥
no_sentence list words number rest line lost opened (IsSentence.entry e is) = no_entry list words number rest e lost opened is
no_sentence list words number rest line lost opened (IsSentence.remark is) = lost.unread list (Reads.remark number rest opened is refl)

-- a line may be a remark, so it begins
remark_begins : (extended : Bool) → Begins (Sentence extended false) []
remark_begins extended = (codes "remark" ∷ [], (None, IsSentence.remark (record { text = []; whole = refl })))

pub some_reading : (list : AccessList) (words : Words) → ((new : AccessList) → Reads list words new → ⊥) → ((why : IosReason) → IsRefused list words why → ⊥) → ⊥
some_reading list words unread unrefused = no_unopened words opened_reading
  where
    lost : IsLost list words
    lost = record { unread = unread; unrefused = unrefused }

    opened_reading : (number : Option ℕ) (rest : Words) → IsOpened words number rest → ⊥
    opened_reading number rest opened =
        let free : IsTaken list.entries number rest → ⊥ = λ taken. unrefused reason.DuplicateSequence (IsRefused.taken number rest opened taken) in
        some_stop IsMessageName (Sentence list.extended) rest (remark_begins list.extended)
        (λ front more word due over whole stops. unrefused (reason_at number front due over word) (IsRefused.stop number rest front more word due over opened free whole stops))
        (λ all. unrefused reason.BadEntry (IsRefused.short number rest opened free all (λ h. no_sentence list words number rest h.0 lost opened h.1)))

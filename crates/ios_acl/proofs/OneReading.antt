-- The words of a line have one reading or one refusal.
use Rattle.std.proofs.Common.{◌≡◌, ℕ, ◌<◌, ◌≤◌, Bool, true, false, List, [], ◌∷◌, ◌++◌, length, Option, Some, None, refl, sym, ap, subst, ◌∙◌, arith}
use Rattle.std.proofs.lemmas.List.{append-nil}
use Rattle.ios_lex.specs.declared.reason.IosReason.{IosReason}
use Rattle.ios_lex.specs.declared.reason.IosReason.TheVariants as reason
use Rattle.ios_lex.specs.Phrases.{Words}
use Rattle.ios_lex.specs.Following.{Begins, Expected}
use Rattle.ios_lex.proofs.Spellings.{number_is_one}
use Rattle.ios_lex.proofs.OneStop.{stop_is_one, no_begins_behind_stop}
use Rattle.ios_acl.specs.declared.entry.Entry.{Entry}
use Rattle.ios_acl.specs.Grammar.{IsEntry, IsRemark, IsSentence}
use Rattle.ios_acl.specs.List.{AccessList, with_entry, next_number, has_number, greatest_sequence, most_entries}
use Rattle.ios_acl.specs.Reading.{IsOpened, IsNumberOf, Reads, Sentence, IsTaken, IsRefused}
use Rattle.ios_acl.specs.Stops.{StopsAt}
use Rattle.ios_acl.specs.Refusal.{reason_at}
use Rattle.ios_acl.proofs.OneEntry.{entry_is_one, no_entry_remark, no_verdict_remark}

-- a line begins with one number, or with none
pub record SameOpening (number number' : Option ℕ) (rest rest' : Words) : Type 0 where
  pub number_same : number ≡ number'
  pub rest_same : rest ≡ rest'

pub opening_is_one : (words : Words) (number number' : Option ℕ) (rest rest' : Words) → IsOpened words number rest → IsOpened words number' rest' → SameOpening number number' rest rest'
opening_is_one words number number' rest rest' (IsOpened.numbered w n whole is given) (IsOpened.numbered w' n' whole' is' given') =
    let f : w' ≡ w = cc in
    let g : n ≡ n' = number_is_one greatest_sequence w n n' is.number (rw (← f) is'.number) in
    record { number_same = cc; rest_same = cc }
opening_is_one words number number' rest rest' (IsOpened.numbered w n whole is given) (IsOpened.plain whole' none given') = absurd (none w n rest whole is)
opening_is_one words number number' rest rest' (IsOpened.plain whole none given) (IsOpened.numbered w n whole' is given') = absurd (none w n rest' whole' is)
opening_is_one words number number' rest rest' (IsOpened.plain whole none given) (IsOpened.plain whole' none' given') = record { number_same = cc; rest_same = cc }

-- what a list becomes with the rest of a line
data ReadsRest (list : AccessList) (number : Option ℕ) (rest : Words) (new : AccessList) : Type 0 where
  remark : IsRemark rest → new ≡ list → ReadsRest list number rest new
  entry : (entry : Entry) → IsEntry list.extended false entry rest → IsNumberOf list.entries number entry.number → entry.number ≤ greatest_sequence
      → length list.entries < most_entries → new ≡ with_entry list entry → ReadsRest list number rest new

-- why a list does not take an entry that is spelled
data IsFull (list : AccessList) (number : Option ℕ) : IosReason → Type 0 where
  overflow : number ≡ None → greatest_sequence < next_number list.entries → IsFull list number reason.BadNumber
  full : (n : ℕ) → IsNumberOf list.entries number n → n ≤ greatest_sequence → most_entries ≤ length list.entries → IsFull list number reason.TooMany

-- why a list does not take the rest of a line
data RefusesRest (list : AccessList) (number : Option ℕ) (rest : Words) : IosReason → Type 0 where
  taken : IsTaken list.entries number rest → RefusesRest list number rest reason.DuplicateSequence
  stop : (front more : Words) (word : List ℕ) (expected : Expected) (backward : Bool) → (IsTaken list.entries number rest → ⊥)
      → rest ≡ front ++ word ∷ more → StopsAt (Sentence list.extended) front word expected backward
      → RefusesRest list number rest (reason_at number front expected backward word)
  short : (IsTaken list.entries number rest → ⊥) → Begins (Sentence list.extended false) rest → (Sentence list.extended false rest → ⊥)
      → RefusesRest list number rest reason.BadEntry
  spelled : (why : IosReason) (entry : Entry) → IsEntry list.extended false entry rest → IsFull list number why → RefusesRest list number rest why

number_is_one_of : (entries : List Entry) (number : Option ℕ) (m n : ℕ) → IsNumberOf entries number m → IsNumberOf entries number n → m ≡ n
number_is_one_of entries number m n (IsNumberOf.given is new) (IsNumberOf.given is' new') = cc
number_is_one_of entries number m n (IsNumberOf.given is new) (IsNumberOf.next is' least') = cc
number_is_one_of entries number m n (IsNumberOf.next is least) (IsNumberOf.given is' new') = cc
number_is_one_of entries number m n (IsNumberOf.next is least) (IsNumberOf.next is' least') = least ∙ sym least'

number_is_free : (entries : List Entry) (number : Option ℕ) (rest : Words) (n : ℕ) → IsNumberOf entries number n → IsTaken entries number rest → ⊥
number_is_free entries number rest n (IsNumberOf.given is new) used =
    let same : used.n ≡ n = cc in
    let both : true ≡ false = sym used.has ∙ ap (has_number entries) same ∙ new in
    cc
number_is_free entries number rest n (IsNumberOf.next is least) used = cc

full_is_free : (list : AccessList) (number : Option ℕ) (rest : Words) (why : IosReason) → IsFull list number why → IsTaken list.entries number rest → ⊥
full_is_free list number rest why (IsFull.overflow is over) used = cc
full_is_free list number rest why (IsFull.full n is small many) used = number_is_free list.entries number rest n is used

no_overflow : (list : AccessList) (number : Option ℕ) (n : ℕ) → number ≡ None → greatest_sequence < next_number list.entries
    → IsNumberOf list.entries number n → n ≤ greatest_sequence → ⊥
no_overflow list number n none over (IsNumberOf.given is new) small = cc
no_overflow list number n none over (IsNumberOf.next is least) small = omega arith

full_is_one : (list : AccessList) (number : Option ℕ) (why other : IosReason) → IsFull list number why → IsFull list number other → why ≡ other
full_is_one list number why other (IsFull.overflow is over) (IsFull.overflow is' over') = refl
full_is_one list number why other (IsFull.overflow is over) (IsFull.full n is' small many) = absurd (no_overflow list number n is over is' small)
full_is_one list number why other (IsFull.full n is small many) (IsFull.overflow is' over) = absurd (no_overflow list number n is' over is small)
full_is_one list number why other (IsFull.full n is small many) (IsFull.full n' is' small' many') = refl

sentence_of_entry : (list : AccessList) (entry : Entry) (rest : Words) → IsEntry list.extended false entry rest → Sentence list.extended false rest
sentence_of_entry list e rest is = (Some e, IsSentence.entry e is)

-- a whole line begins a line
sentence_begins : (list : AccessList) (rest : Words) → Sentence list.extended false rest → Begins (Sentence list.extended false) rest
sentence_begins list rest is = ([], subst (Sentence list.extended false) (sym (append-nil rest)) is)

entry_begins_line : (list : AccessList) (entry : Entry) (rest : Words) → IsEntry list.extended false entry rest → Begins (Sentence list.extended false) rest
entry_begins_line list e rest is = sentence_begins list rest (sentence_of_entry list e rest is)

refusal_is_one : (list : AccessList) (number : Option ℕ) (rest : Words) (why other : IosReason) → RefusesRest list number rest why → RefusesRest list number rest other → why ≡ other
refusal_is_one list number rest why other (RefusesRest.taken used) (RefusesRest.taken used') = refl
refusal_is_one list number rest why other (RefusesRest.taken used) (RefusesRest.stop f m w d b free whole stops) = absurd (free used)
refusal_is_one list number rest why other (RefusesRest.taken used) (RefusesRest.short free begins ends) = absurd (free used)
refusal_is_one list number rest why other (RefusesRest.taken used) (RefusesRest.spelled why' e is fails) = absurd (full_is_free list number rest other fails used)
refusal_is_one list number rest why other (RefusesRest.stop f m w d b free whole stops) (RefusesRest.taken used) = absurd (free used)
refusal_is_one list number rest why other (RefusesRest.stop f m w d b free whole stops) (RefusesRest.stop f' m' w' d' b' free' whole' stops') =
    let one = stop_is_one (Sentence list.extended) f f' m m' w w' d d' b b' (sym whole ∙ whole') stops stops' in
    rw (one.front_same, one.word_same, one.due_same, one.over_same) refl
refusal_is_one list number rest why other (RefusesRest.stop f m w d b free whole stops) (RefusesRest.short free' begins ends) =
    absurd (no_begins_behind_stop (Sentence list.extended) f rest m w d b stops whole begins)
refusal_is_one list number rest why other (RefusesRest.stop f m w d b free whole stops) (RefusesRest.spelled why' e is fails) =
    absurd (no_begins_behind_stop (Sentence list.extended) f rest m w d b stops whole (entry_begins_line list e rest is))
refusal_is_one list number rest why other (RefusesRest.short free begins ends) (RefusesRest.taken used) = absurd (free used)
refusal_is_one list number rest why other (RefusesRest.short free begins ends) (RefusesRest.stop f m w d b free' whole stops) =
    absurd (no_begins_behind_stop (Sentence list.extended) f rest m w d b stops whole begins)
refusal_is_one list number rest why other (RefusesRest.short free begins ends) (RefusesRest.short free' begins' ends') = refl
refusal_is_one list number rest why other (RefusesRest.short free begins ends) (RefusesRest.spelled why' e is fails) = absurd (ends (sentence_of_entry list e rest is))
refusal_is_one list number rest why other (RefusesRest.spelled why' e is fails) (RefusesRest.taken used) = absurd (full_is_free list number rest why fails used)
refusal_is_one list number rest why other (RefusesRest.spelled why' e is fails) (RefusesRest.stop f m w d b free whole stops) =
    absurd (no_begins_behind_stop (Sentence list.extended) f rest m w d b stops whole (entry_begins_line list e rest is))
refusal_is_one list number rest why other (RefusesRest.spelled why' e is fails) (RefusesRest.short free begins ends) = absurd (ends (sentence_of_entry list e rest is))
refusal_is_one list number rest why other (RefusesRest.spelled why' e is fails) (RefusesRest.spelled why'' e' is' fails') = full_is_one list number why other fails fails'

reading_is_one : (list : AccessList) (number : Option ℕ) (rest : Words) (new other : AccessList) → ReadsRest list number rest new → ReadsRest list number rest other → new ≡ other
reading_is_one list number rest new other (ReadsRest.remark is same) (ReadsRest.remark is' same') = same ∙ sym same'
reading_is_one list number rest new other (ReadsRest.remark is same) (ReadsRest.entry e is' numbered small room added) = absurd (no_entry_remark list.extended false e rest is' is)
reading_is_one list number rest new other (ReadsRest.entry e is numbered small room added) (ReadsRest.remark is' same) = absurd (no_entry_remark list.extended false e rest is is')
reading_is_one list number rest new other (ReadsRest.entry e is numbered small room added) (ReadsRest.entry e' is' numbered' small' room' added') =
    let one = entry_is_one list.extended false e e' rest is is' (number_is_one_of list.entries number e.number e'.number numbered numbered') in
    added ∙ ap (with_entry list) one ∙ sym added'

-- what is read is a whole line, whose number the list has not
reads_sentence : (list : AccessList) (number : Option ℕ) (rest : Words) (new : AccessList) → ReadsRest list number rest new → Sentence list.extended false rest
reads_sentence list number rest new (ReadsRest.remark is same) = (None, IsSentence.remark is)
reads_sentence list number rest new (ReadsRest.entry e is numbered small room added) = sentence_of_entry list e rest is

reads_free : (list : AccessList) (number : Option ℕ) (rest : Words) (new : AccessList) → ReadsRest list number rest new → IsTaken list.entries number rest → ⊥
reads_free list number rest new (ReadsRest.remark is same) used = no_verdict_remark used.verdict rest used.more used.begins is
reads_free list number rest new (ReadsRest.entry e is numbered small room added) used = number_is_free list.entries number rest e.number numbered used

reads_not_full : (list : AccessList) (number : Option ℕ) (rest : Words) (new : AccessList) (e : Entry) (why : IosReason)
    → ReadsRest list number rest new → IsEntry list.extended false e rest → IsFull list number why → ⊥
reads_not_full list number rest new e why (ReadsRest.remark is same) is' fails = no_entry_remark list.extended false e rest is' is
reads_not_full list number rest new e why (ReadsRest.entry e' is numbered small room added) is' (IsFull.overflow none over) =
    no_overflow list number e'.number none over numbered small
reads_not_full list number rest new e why (ReadsRest.entry e' is numbered small room added) is' (IsFull.full n numbered' small' many) = omega arith

not_both : (list : AccessList) (number : Option ℕ) (rest : Words) (new : AccessList) (why : IosReason) → ReadsRest list number rest new → RefusesRest list number rest why → ⊥
not_both list number rest new why reads (RefusesRest.taken used) = reads_free list number rest new reads used
not_both list number rest new why reads (RefusesRest.stop f m w d b free whole stops) =
    no_begins_behind_stop (Sentence list.extended) f rest m w d b stops whole (sentence_begins list rest (reads_sentence list number rest new reads))
not_both list number rest new why reads (RefusesRest.short free begins ends) = ends (reads_sentence list number rest new reads)
not_both list number rest new why reads (RefusesRest.spelled why' e is fails) = reads_not_full list number rest new e why reads is fails

-- a reading and a refusal of a line are those of its rest
record ReadsLine (list : AccessList) (words : Words) (new : AccessList) : Type 0 where
  pub number : Option ℕ
  pub rest : Words
  pub opened : IsOpened words number rest
  pub reads : ReadsRest list number rest new

record RefusesLine (list : AccessList) (words : Words) (why : IosReason) : Type 0 where
  pub number : Option ℕ
  pub rest : Words
  pub opened : IsOpened words number rest
  pub refuses : RefusesRest list number rest why

reads_line : (list : AccessList) (words : Words) (new : AccessList) → Reads list words new → ReadsLine list words new
reads_line list words new (Reads.remark number rest opened is same) = record { number = number; rest = rest; opened = opened; reads = ReadsRest.remark is same }
reads_line list words new (Reads.entry number rest e opened is numbered small room added) =
    record { number = number; rest = rest; opened = opened; reads = ReadsRest.entry e is numbered small room added }

refuses_line : (list : AccessList) (words : Words) (why : IosReason) → IsRefused list words why → RefusesLine list words why
refuses_line list words why (IsRefused.taken number rest opened used) = record { number = number; rest = rest; opened = opened; refuses = RefusesRest.taken used }
refuses_line list words why (IsRefused.stop number rest f m w d b opened free whole stops) =
    record { number = number; rest = rest; opened = opened; refuses = RefusesRest.stop f m w d b free whole stops }
refuses_line list words why (IsRefused.short number rest opened free begins ends) =
    record { number = number; rest = rest; opened = opened; refuses = RefusesRest.short free begins ends }
refuses_line list words why (IsRefused.overflow rest e opened is over) =
    record { number = None; rest = rest; opened = opened; refuses = RefusesRest.spelled _ e is (IsFull.overflow refl over) }
refuses_line list words why (IsRefused.full number rest e opened is numbered small many) =
    record { number = number; rest = rest; opened = opened; refuses = RefusesRest.spelled _ e is (IsFull.full e.number numbered small many) }

pub lists_are_one : (list new other : AccessList) (words : Words) → Reads list words new → Reads list words other → new ≡ other
lists_are_one list new other words first second =
    let x = reads_line list words new first in
    let y = reads_line list words other second in
    let one = opening_is_one words x.number y.number x.rest y.rest x.opened y.opened in
    reading_is_one list x.number x.rest new other x.reads (rw (one.number_same, one.rest_same) y.reads)

pub reasons_are_one : (list : AccessList) (words : Words) (why other : IosReason) → IsRefused list words why → IsRefused list words other → why ≡ other
reasons_are_one list words why other first second =
    let x = refuses_line list words why first in
    let y = refuses_line list words other second in
    let one = opening_is_one words x.number y.number x.rest y.rest x.opened y.opened in
    refusal_is_one list x.number x.rest why other x.refuses (rw (one.number_same, one.rest_same) y.refuses)

pub no_refused_reading : (list new : AccessList) (words : Words) (why : IosReason) → Reads list words new → IsRefused list words why → ⊥
no_refused_reading list new words why first second =
    let x = reads_line list words new first in
    let y = refuses_line list words why second in
    let one = opening_is_one words x.number y.number x.rest y.rest x.opened y.opened in
    not_both list x.number x.rest new why x.reads (rw (one.number_same, one.rest_same) y.refuses)

-- What a line does with a list, from what its parts are read as.
use Rattle.std.proofs.Common.{◌≡◌, ℕ, Bool, false, List, Option, Some, None, IfSome, refl}
use Rattle.std.proofs.lemmas.Bool.{false_from_ne_true}
use Rattle.ios_lex.specs.declared.reason.IosReason.TheVariants as ios
use Rattle.ios_lex.specs.declared.stop.Stop.{Stop}
use Rattle.ios_lex.specs.Phrases.{Words}
use Rattle.ios_lex.specs.Stops.{expected_of, is_lax}
use Rattle.ios_lex.proofs.StopReasons.{refused_at_stop}
use Rattle.ios_acl.specs.declared.entry.Entry.{Entry}
use Rattle.ios_acl.specs.declared.fault.AclFault.{AclFault}
use Rattle.ios_acl.specs.Grammar.{IsEntry, IsRemark, IsSentence, entry as of_entry, remark as of_remark}
use Rattle.ios_acl.specs.List.{AccessList, has_number}
use Rattle.ios_acl.specs.Reading.{IsOpened, IsTaken, IsRefused, Reads, Sentence}
use Rattle.ios_acl.specs.Reading as reading
use Rattle.ios_acl.specs.Refusal.{unmodelled_at}
use Rattle.ios_acl.specs.Stops.{IsStop}
use Rattle.ios_acl.specs.Faults.{IsFault, line_reason}
use Rattle.ios_acl.specs.Adding.{Adds, CannotAdd, with_number}
use Rattle.ios_acl.specs.Adding as adding
use Rattle.ios_acl.proofs.Insertion.{spelled_numbered}
use Rattle.ios_acl.proofs.OneEntry.{entry_begins}

pub sentence_entry : (extended backward : Bool) (words : Words) (entry : Entry) → IsSentence extended backward words (Some entry) → IsEntry extended backward entry words
sentence_entry extended backward words entry (of_entry _ h) = h

pub sentence_remark : (extended backward : Bool) (words : Words) → IsSentence extended backward words None → IsRemark words
sentence_remark extended backward words (of_remark h) = h

-- the number before an entry is free where it is not taken
pub number_is_free : (extended : Bool) (entries : List Entry) (number : Option ℕ) (rest : Words) (entry : Entry) → (IsTaken entries number rest → ⊥)
    → IsSentence extended false rest (Some entry) → IfSome number (λ n. has_number entries n ≡ false)
number_is_free extended entries None rest entry free h = tt
number_is_free extended entries (Some n) rest entry free h =
    let begins = entry_begins extended false entry rest (sentence_entry extended false rest entry h) in
    false_from_ne_true (has_number entries n)
    (λ has. free (record { n = n; verdict = entry.verdict; more = begins.0; given = refl; has = has; begins = begins.1 }))

-- a line is refused where its words stop to begin one
pub stop_refused : (list : AccessList) (words : Words) (number : Option ℕ) (rest : Words) (stop : Stop) → IsOpened words number rest → (IsTaken list.entries number rest → ⊥)
    → IsStop (Sentence list.extended) rest stop → IsRefused list words (line_reason number rest stop)
stop_refused list words number rest stop opened free is =
    refused_at_stop (Sentence list.extended) rest stop (IsRefused list words) (unmodelled_at number) (λ _. ios.BadNumber)
    (λ front more word whole stopped. reading.stop number rest front more word (expected_of stop.due) (is_lax stop.due) opened free whole stopped)
    (λ begins none. reading.short number rest opened free begins none) is

-- a line whose entry is added is read
pub added_reads : (list new : AccessList) (words : Words) (number : Option ℕ) (rest : Words) (entry : Entry) → IsOpened words number rest
    → IsSentence list.extended false rest (Some entry) → Adds list entry number new → Reads list words new
added_reads list new words number rest entry opened line adds =
    let spelled = sentence_entry list.extended false rest entry line in
    reading.entry number rest (with_number entry adds.n) opened (spelled_numbered list.extended false entry adds.n rest spelled) adds.is_number adds.small adds.room adds.added

-- a line whose entry can't be added is refused for that
pub not_added_refused : (list : AccessList) (words : Words) (number : Option ℕ) (rest : Words) (entry : Entry) (fault : AclFault) → IsOpened words number rest
    → IsSentence list.extended false rest (Some entry) → CannotAdd list number fault → IsFault list words fault
not_added_refused list words number rest entry fault opened line (adding.overflow none great) =
    reading.overflow rest entry (rw none at opened) (sentence_entry list.extended false rest entry line) great
not_added_refused list words number rest entry fault opened line (adding.full n is small many) =
    let spelled = sentence_entry list.extended false rest entry line in
    reading.full number rest (with_number entry n) opened (spelled_numbered list.extended false entry n rest spelled) is small many
not_added_refused list words number rest entry fault opened line adding.memory = tt

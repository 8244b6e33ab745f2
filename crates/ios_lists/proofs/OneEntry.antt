-- A line of the block of a list that is there has one reading or one refusal.
use Rattle.std.proofs.Common.{◌≡◌, ℕ, Bool, List, Some, refl, ap, sym, ◌∙◌}
use Rattle.ios_lex.specs.declared.reason.IosReason.{IosReason}
use Rattle.ios_lex.specs.Phrases.{Words}
use Rattle.ios_acl.specs.List.{AccessList}
use Rattle.ios_acl.proofs.OneReading.{no_refused_reading, lists_are_one, reasons_are_one}
use Rattle.ios_acl.proofs.SomeReading.{some_reading}
use Rattle.ios_lists.specs.Entries.{ReadsEntry, IsEntryRefused}
use Rattle.ios_lists.specs.Lists.{list_named, with_list, kind_named}
use Rattle.ios_lists.specs.Rules.{ReadsInto}

into_is_one : (lists : List AccessList) (name : List ℕ) (extended : Bool) (words : Words) (new other : List AccessList) → ReadsInto lists name extended words new → ReadsInto lists name extended words other → new ≡ other
into_is_one lists name extended words new other first second =
    first.put ∙ ap (with_list lists) (lists_are_one (list_named lists name extended) first.made second.made words first.reads second.reads) ∙ sym second.put

pub entry_same : (lists : List AccessList) (name : List ℕ) (words : Words) (new other : List AccessList) → ReadsEntry lists name words new → ReadsEntry lists name words other → new ≡ other
entry_same lists name words new other first second =
    let kind : second.extended ≡ first.extended = cc (first.kind, second.kind) in
    into_is_one lists name first.extended words new other first.reads (rw kind at second.reads)

pub entry_reason : (lists : List AccessList) (name : List ℕ) (words : Words) (why other : IosReason) → IsEntryRefused lists name words why → IsEntryRefused lists name words other → why ≡ other
entry_reason lists name words why other first second =
    let kind : second.extended ≡ first.extended = cc (first.kind, second.kind) in
    reasons_are_one (list_named lists name first.extended) words why other first.refused (rw kind at second.refused)

pub entry_not_both : (lists : List AccessList) (name : List ℕ) (words : Words) (new : List AccessList) (why : IosReason) → ReadsEntry lists name words new → IsEntryRefused lists name words why → ⊥
entry_not_both lists name words new why reads refused =
    let kind : refused.extended ≡ reads.extended = cc (reads.kind, refused.kind) in
    no_refused_reading (list_named lists name reads.extended) reads.reads.made words why reads.reads.reads (rw kind at refused.refused)

pub entry_not_neither : (lists : List AccessList) (name : List ℕ) (extended : Bool) (words : Words) → kind_named lists name ≡ Some extended → ((new : List AccessList) → ReadsEntry lists name words new → ⊥)
    → ((why : IosReason) → IsEntryRefused lists name words why → ⊥) → ⊥
entry_not_neither lists name extended words kind unread unrefused =
    some_reading (list_named lists name extended) words
    (λ made reads. unread (with_list lists made) (record { extended = extended; kind = kind; reads = record { made = made; reads = reads; put = refl } }))
    (λ why refused. unrefused why (record { extended = extended; kind = kind; refused = refused }))

-- Each line of a numbered list, and each head, has a reading or a refusal.
use Rattle.std.proofs.Common.{◌≡◌, ℕ, Bool, true, false, not, List, [], ◌∷◌, length, Some, None, inl, inr, ⊎_elim, codes, refl}
use Rattle.std.proofs.lemmas.Bool.{cases_lt}
use Rattle.ios_lex.specs.declared.reason.IosReason.{IosReason}
use Rattle.ios_lex.specs.declared.reason.IosReason.TheVariants as ios
use Rattle.ios_lex.specs.Phrases.{Words}
use Rattle.ios_lex.specs.Refusal.{is_among}
use Rattle.ios_lex.specs.ListNames.{IsListNumber, has_kind, is_standard, is_extended, is_foreign, is_name, FitsName}
use Rattle.ios_lex.proofs.Among.{among_cases}
use Rattle.ios_acl.specs.Block.{empty_list, kind_word}
use Rattle.ios_acl.specs.List.{AccessList}
use Rattle.ios_acl.proofs.SomeReading.{some_reading}
use Rattle.ios_lex.specs.declared.taken.Taken.{Taken}
use Rattle.ios_lex.specs.declared.taken.Taken.TheVariants as taken
use Rattle.ios_lists.specs.Heads.{IsHead, OpensBlock, IsBlockRefused}
use Rattle.ios_lists.specs.Holding.{place_named}
use Rattle.ios_lists.specs.Lists.{list_named, with_list, kind_named, FitsLists}
use Rattle.ios_lists.specs.Numbered.{IsNumbered, ReadsNumbered, IsNumberedRefused}
use Rattle.ios_lists.specs.Rules.{rule_words, unmodelled_words}
use Rattle.ios_lists.specs.Rules as rules_of
use Rattle.ios_lists.proofs.Growing.{begun_found, begun_new}
use Rattle.ios_lists.proofs.Heads.{head_opens}
use Rattle.ios_lists.proofs.Places.{absent}

-- where a contradiction is sought, a statement may be taken to hold or to fail
pub by_cases : {P : Type 0} → (P → ⊥) → ((P → ⊥) → ⊥) → ⊥
by_cases holds fails = fails holds

pub bool_cases : (b : Bool) → (b ≡ true → ⊥) → (b ≡ false → ⊥) → ⊥
bool_cases true holds fails = holds refl
bool_cases false holds fails = fails refl

abbrev IsUnread : List AccessList → Words → Type 0
IsUnread lists words = (new : List AccessList) (answer : Taken) → ReadsNumbered lists words new answer → ⊥

abbrev IsUnopened : List AccessList → Words → Type 0
IsUnopened lists words = (new : List AccessList) (place : ℕ) → OpensBlock lists words new place → ⊥

abbrev IsUnrefused : (IosReason → Type 0) → Type 0
IsUnrefused Refused = (why : IosReason) → Refused why → ⊥

rule_reading : (lists : List AccessList) (name : List ℕ) (extended : Bool) (rule : Words) → IsNumbered lists name extended
    → IsUnread lists (name ∷ rule) → IsUnrefused (IsNumberedRefused lists (name ∷ rule)) → ⊥
rule_reading lists name extended [] numbered unread unrefused = unrefused ios.BadEntry (IsNumberedRefused.no_rule name extended [] ios.BadEntry numbered rules_of.none)
rule_reading lists name extended (first ∷ rest) numbered unread unrefused =
    bool_cases (is_among unmodelled_words first)
    (λ among. unrefused (ios.Unmodelled first) (IsNumberedRefused.no_rule name extended (first ∷ rest) (ios.Unmodelled first) numbered (rules_of.not_modelled first rest among)))
    (λ modelled. bool_cases (is_among rule_words first)
    (λ among. some_reading (list_named lists name extended) (first ∷ rest)
    (λ made reads. unread (with_list lists made) taken.Modelled
    (ReadsNumbered.modelled name extended (first ∷ rest) refl numbered (record { first = first; rest = rest; whole = refl; among = among }) (record { made = made; reads = reads; put = refl })))
    (λ why refused. unrefused why (IsNumberedRefused.rule name extended (first ∷ rest) why numbered (record { first = first; rest = rest; whole = refl; among = among }) refused)))
    (λ no_rule. unrefused ios.BadEntry (IsNumberedRefused.no_rule name extended (first ∷ rest) ios.BadEntry numbered (rules_of.other first rest modelled no_rule))))

kind_reading : (lists : List AccessList) (name : List ℕ) (n : ℕ) (extended : Bool) (rule : Words) → IsListNumber name n → has_kind extended n ≡ true
    → IsUnread lists (name ∷ rule) → IsUnrefused (IsNumberedRefused lists (name ∷ rule)) → ⊥
kind_reading lists name n extended rule number kind unread unrefused =
    by_cases (λ (begun : kind_named lists name ≡ Some (not extended)). unrefused ios.WrongKind (IsNumberedRefused.begun name n extended rule number kind begun))
    (λ fits. rule_reading lists name extended rule (record { n = n; number = number; kind = kind; fits = fits }) unread unrefused)

number_reading : (lists : List AccessList) (name : List ℕ) (n : ℕ) (rule : Words) → IsListNumber name n
    → IsUnread lists (name ∷ rule) → IsUnrefused (IsNumberedRefused lists (name ∷ rule)) → ⊥
number_reading lists name n rule number unread unrefused =
    bool_cases (is_extended n) (λ kind. kind_reading lists name n true rule number kind unread unrefused)
    (λ not_extended. bool_cases (is_standard n) (λ kind. kind_reading lists name n false rule number kind unread unrefused)
    (λ not_standard. bool_cases (is_foreign n)
    (λ foreign. unread lists taken.Ignored (ReadsNumbered.foreign name n rule refl number foreign refl))
    (λ not_foreign. unrefused ios.WrongKind (IsNumberedRefused.kind name n rule number not_standard not_extended not_foreign))))

pub some_numbered : (lists : List AccessList) (words : Words) → IsUnread lists words → IsUnrefused (IsNumberedRefused lists words) → ⊥
some_numbered lists [] unread unrefused = unrefused ios.BadEntry IsNumberedRefused.short
some_numbered lists (name ∷ rule) unread unrefused =
    by_cases (λ (found : (n : ℕ) × IsListNumber name n). number_reading lists name found.0 rule found.1 unread unrefused)
    (λ none. unrefused ios.BadNumber (IsNumberedRefused.number name rule (λ n number. none (n, number))))

name_reading : (lists : List AccessList) (extended : Bool) (name : List ℕ) (more : Words) → FitsName name extended → FitsLists lists name extended
    → IsUnopened lists (kind_word extended ∷ name ∷ more) → IsUnrefused (IsBlockRefused lists (kind_word extended ∷ name ∷ more)) → ⊥
name_reading lists extended name (word ∷ rest) fits_name fits_lists unopened unrefused =
    unrefused ios.BadEntry (IsBlockRefused.long extended name word rest fits_name fits_lists)
name_reading lists extended name [] fits_name fits_lists unopened unrefused =
    bool_cases (is_name name)
    (λ bytes.
    let head : IsHead lists (kind_word extended ∷ name ∷ []) name extended = record { whole = refl; fits_name = fits_name; fits_lists = fits_lists; bytes = bytes } in
    let place : ℕ = place_named lists name in
    ⊎_elim (λ inside. unopened lists place (head_opens lists (kind_word extended ∷ name ∷ []) name extended lists place head (begun_found lists name extended place (record { at = refl; inside = inside }))))
    (λ past.
    let new : List AccessList = with_list lists (empty_list name extended) in
    let none : kind_named lists name ≡ None = (absent lists name extended past).kind in
    unopened new (length lists) (head_opens lists (kind_word extended ∷ name ∷ []) name extended new (length lists) head (begun_new lists new name extended (length lists) none refl refl)))
    (cases_lt place (length lists)))
    (λ no_name. unrefused ios.BadEntry (IsBlockRefused.bytes extended name fits_name fits_lists no_name))

kind_head_reading : (lists : List AccessList) (extended : Bool) (words : Words)
    → IsUnopened lists (kind_word extended ∷ words) → IsUnrefused (IsBlockRefused lists (kind_word extended ∷ words)) → ⊥
kind_head_reading lists extended [] unopened unrefused = unrefused ios.BadEntry (IsBlockRefused.nameless extended)
kind_head_reading lists extended (name ∷ more) unopened unrefused =
    by_cases (λ (other : (n : ℕ) × IsListNumber name n × (has_kind (not extended) n ≡ true)). unrefused ios.WrongKind (IsBlockRefused.kind extended name other.0 more other.1 other.2))
    (λ none. by_cases (λ (begun : kind_named lists name ≡ Some (not extended)). unrefused ios.WrongKind (IsBlockRefused.begun extended name more (λ n number kind. none (n, number, kind)) begun))
    (λ fits. name_reading lists extended name more (λ n number kind. none (n, number, kind)) fits unopened unrefused))

kind_among : (word : List ℕ) → is_among (codes "standard" ∷ codes "extended" ∷ []) word ≡ true → (extended : Bool) × (word ≡ kind_word extended)
kind_among word among =
    elim (among_cases (codes "standard") (codes "extended" ∷ []) word among) [
      | inl same ↦ (false, same)
      | inr later ↦ elim (among_cases (codes "extended") [] word later) [
        | inl same ↦ (true, same)
        | inr never ↦ absurd (cc never)
      ]
    ]

pub some_head : (lists : List AccessList) (words : Words) → IsUnopened lists words → IsUnrefused (IsBlockRefused lists words) → ⊥
some_head lists [] unopened unrefused = unrefused ios.BadEntry IsBlockRefused.short
some_head lists (word ∷ rest) unopened unrefused =
    bool_cases (is_among (codes "standard" ∷ codes "extended" ∷ []) word)
    (λ among.
    let kind = kind_among word among in
    kind_head_reading lists kind.0 rest (rw kind.1 at unopened) (rw kind.1 at unrefused))
    (λ no_kind. unrefused (ios.Unmodelled word) (IsBlockRefused.not_modelled word rest no_kind))

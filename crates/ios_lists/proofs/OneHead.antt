-- A head of a block has one reading or one refusal.
use Rattle.std.proofs.Common.{◌≡◌, ℕ, Bool, true, false, List, [], ◌∷◌, Option, Some, None, Ok, Err, codes, option_map, slice_get, refl, sym, ap, ◌∙◌}
use Rattle.std.specs.Str.{bytes_eq}
use Rattle.ios_lex.specs.declared.reason.IosReason.{IosReason}
use Rattle.ios_lex.specs.Phrases.{Words}
use Rattle.ios_lex.specs.Refusal.{is_among}
use Rattle.ios_lex.specs.ListNames.{is_name}
use Rattle.ios_acl.specs.Block.{kind_word}
use Rattle.ios_acl.specs.List.{AccessList}
use Rattle.ios_lists.specs.Heads.{IsHead, OpensBlock, IsBlockRefused}
use Rattle.ios_lists.specs.Holding.{name_of, place_named}
use Rattle.ios_lists.specs.Lists.{list_named, with_list, HaveDifferentNames, name_at}
use Rattle.ios_lists.proofs.DifferentNames.{first_of_name, names_with}
use Rattle.ios_lists.proofs.HeadOutcomes.{Outcome, NameOutcome, FitOutcome, KindOutcome, HeadOutcome}
use Rattle.ios_lists.proofs.OneNumbered.{not_true_and_false}

name_is_one : (name : List ℕ) (extended : Bool) (more : Words) (o p : Outcome) → NameOutcome name extended more o → NameOutcome name extended more p → o ≡ p
name_is_one name extended more o p (NameOutcome.long word rest) (NameOutcome.long word' rest') = refl
name_is_one name extended more o p (NameOutcome.bytes no_name) (NameOutcome.bytes no_name') = refl
name_is_one name extended more o p (NameOutcome.bytes no_name) (NameOutcome.opened is_name) = absurd (not_true_and_false _ is_name no_name)
name_is_one name extended more o p (NameOutcome.opened is_name) (NameOutcome.bytes no_name) = absurd (not_true_and_false _ is_name no_name)
name_is_one name extended more o p (NameOutcome.opened is_name) (NameOutcome.opened is_name') = refl

fit_is_one : (lists : List AccessList) (name : List ℕ) (extended : Bool) (more : Words) (o p : Outcome) → FitOutcome lists name extended more o → FitOutcome lists name extended more p → o ≡ p
fit_is_one lists name extended more o p (FitOutcome.number n is other) (FitOutcome.number n' is' other') = refl
fit_is_one lists name extended more o p (FitOutcome.number n is other) (FitOutcome.begun begun) = refl
fit_is_one lists name extended more o p (FitOutcome.number n is other) (FitOutcome.fits p' name_fits fit comes) = absurd (name_fits n is other)
fit_is_one lists name extended more o p (FitOutcome.begun begun) (FitOutcome.number n is other) = refl
fit_is_one lists name extended more o p (FitOutcome.begun begun) (FitOutcome.begun begun') = refl
fit_is_one lists name extended more o p (FitOutcome.begun begun) (FitOutcome.fits p' name_fits fit comes) = absurd (fit begun)
fit_is_one lists name extended more o p (FitOutcome.fits o' name_fits fit comes) (FitOutcome.number n is other) = absurd (name_fits n is other)
fit_is_one lists name extended more o p (FitOutcome.fits o' name_fits fit comes) (FitOutcome.begun begun) = absurd (fit begun)
fit_is_one lists name extended more o p (FitOutcome.fits o' name_fits fit comes) (FitOutcome.fits p' name_fits' fit' comes') = name_is_one name extended more o p comes comes'

kind_is_one : (lists : List AccessList) (extended : Bool) (words : Words) (o p : Outcome) → KindOutcome lists extended words o → KindOutcome lists extended words p → o ≡ p
kind_is_one lists extended words o p KindOutcome.nameless KindOutcome.nameless = refl
kind_is_one lists extended words o p (KindOutcome.named name more o' comes) (KindOutcome.named name' more' p' comes') = fit_is_one lists name extended more o p comes comes'

kind_word_among : (extended : Bool) → is_among (codes "standard" ∷ codes "extended" ∷ []) (kind_word extended) ≡ true
kind_word_among true = refl
kind_word_among false = refl

no_kind_word : (word : List ℕ) (extended : Bool) → word ≡ kind_word extended → is_among (codes "standard" ∷ codes "extended" ∷ []) word ≡ false → ⊥
no_kind_word word extended is none = not_true_and_false _ (kind_word_among extended) (rw is at none)

one_kind_word : (extended other : Bool) → kind_word extended ≡ kind_word other → extended ≡ other
one_kind_word true true same = refl
one_kind_word true false same = ap (bytes_eq (codes "extended")) same
one_kind_word false true same = sym (ap (bytes_eq (codes "standard")) same)
one_kind_word false false same = refl

head_is_one : (lists : List AccessList) (words : Words) (o p : Outcome) → HeadOutcome lists words o → HeadOutcome lists words p → o ≡ p
head_is_one lists words o p HeadOutcome.short HeadOutcome.short = refl
head_is_one lists words o p (HeadOutcome.other word rest none) (HeadOutcome.other word' rest' none') = refl
head_is_one lists words o p (HeadOutcome.other word rest none) (HeadOutcome.kind word' rest' extended p' is comes) = absurd (no_kind_word word extended is none)
head_is_one lists words o p (HeadOutcome.kind word rest extended o' is comes) (HeadOutcome.other word' rest' none) = absurd (no_kind_word word extended is none)
head_is_one lists words o p (HeadOutcome.kind word rest extended o' is comes) (HeadOutcome.kind word' rest' other p' is' comes') =
    kind_is_one lists extended rest o p comes (rw (one_kind_word extended other (sym is ∙ is')) comes')

opened_outcome : (lists : List AccessList) (words : Words) (name : List ℕ) (extended : Bool) → IsHead lists words name extended → HeadOutcome lists words (Ok (name, extended))
opened_outcome lists words name extended head =
    rw head.whole
    (let outcome : Outcome = Ok (name, extended) in
    HeadOutcome.kind (kind_word extended) (name ∷ []) extended outcome refl
    (KindOutcome.named name [] outcome (FitOutcome.fits outcome head.fits_name head.fits_lists (NameOutcome.opened head.bytes))))

refused_outcome : (lists : List AccessList) (words : Words) (why : IosReason) → IsBlockRefused lists words why → HeadOutcome lists words (Err why)
refused_outcome lists words why IsBlockRefused.short = HeadOutcome.short
refused_outcome lists words why (IsBlockRefused.not_modelled word rest none) = HeadOutcome.other word rest none
refused_outcome lists words why (IsBlockRefused.nameless extended) = HeadOutcome.kind (kind_word extended) [] extended (Err why) refl KindOutcome.nameless
refused_outcome lists words why (IsBlockRefused.kind extended name n rest number other) =
    HeadOutcome.kind (kind_word extended) (name ∷ rest) extended (Err why) refl (KindOutcome.named name rest (Err why) (FitOutcome.number n number other))
refused_outcome lists words why (IsBlockRefused.begun extended name rest fits other) =
    HeadOutcome.kind (kind_word extended) (name ∷ rest) extended (Err why) refl (KindOutcome.named name rest (Err why) (FitOutcome.begun other))
refused_outcome lists words why (IsBlockRefused.long extended name word rest fits_name fits_lists) =
    HeadOutcome.kind (kind_word extended) (name ∷ word ∷ rest) extended (Err why) refl
    (KindOutcome.named name (word ∷ rest) (Err why) (FitOutcome.fits (Err why) fits_name fits_lists (NameOutcome.long word rest)))
refused_outcome lists words why (IsBlockRefused.bytes extended name fits_name fits_lists bytes) =
    HeadOutcome.kind (kind_word extended) (name ∷ []) extended (Err why) refl
    (KindOutcome.named name [] (Err why) (FitOutcome.fits (Err why) fits_name fits_lists (NameOutcome.bytes bytes)))

-- where names differ, a name has one place
pub place_is_first : (lists : List AccessList) (name : List ℕ) (place : ℕ) → HaveDifferentNames lists → name_at lists place ≡ Some name → place_named lists name ≡ place
place_is_first lists name place differ at = by (slice_get lists place) refl at
  where
    by : (there : Option AccessList) → slice_get lists place ≡ there → option_map name_of there ≡ Some name → place_named lists name ≡ place
    by None is none = absurd (cc none)
    by (Some list) is named =
        let same : list.name ≡ name = cc named in
        rw same at (first_of_name lists place list differ is)

pub head_same : (lists : List AccessList) (words : Words) (made other : List AccessList × ℕ) → HaveDifferentNames lists → OpensBlock lists words made.0 made.1 → OpensBlock lists words other.0 other.1
    → made ≡ other
head_same lists words made other differ first second =
    let same = head_is_one lists words (Ok (first.name, first.extended)) (Ok (second.name, second.extended)) (opened_outcome lists words first.name first.extended first.head) (opened_outcome lists words second.name second.extended second.head) in
    let pair : (first.name, first.extended) ≡ (second.name, second.extended) = cc same in
    let name : second.name ≡ first.name = sym (ap (λ (p : List ℕ × Bool). p.0) pair) in
    let extended : second.extended ≡ first.extended = sym (ap (λ (p : List ℕ × Bool). p.1) pair) in
    let put : other.0 ≡ with_list lists (list_named lists first.name first.extended) = rw (name, extended) at second.put in
    let new : made.0 ≡ other.0 = first.put ∙ sym put in
    let differ_new : HaveDifferentNames other.0 = rw put (names_with lists (list_named lists first.name first.extended) differ) in
    let place : place_named other.0 first.name ≡ made.1 = place_is_first other.0 first.name made.1 differ_new (rw new at first.at) in
    let place_other : place_named other.0 first.name ≡ other.1 = place_is_first other.0 first.name other.1 differ_new (rw name at second.at) in
    λ i. (new i, (sym place ∙ place_other) i)

pub head_reason : (lists : List AccessList) (words : Words) (why other : IosReason) → IsBlockRefused lists words why → IsBlockRefused lists words other → why ≡ other
head_reason lists words why other first second =
    let same = head_is_one lists words (Err why) (Err other) (refused_outcome lists words why first) (refused_outcome lists words other second) in
    cc same

pub head_not_refused : (lists : List AccessList) (words : Words) (name : List ℕ) (extended : Bool) (why : IosReason) → IsHead lists words name extended → IsBlockRefused lists words why → ⊥
head_not_refused lists words name extended why head refused =
    let same = head_is_one lists words (Ok (name, extended)) (Err why) (opened_outcome lists words name extended head) (refused_outcome lists words why refused) in
    absurd (cc same)

pub head_not_both : (lists : List AccessList) (words : Words) (made : List AccessList × ℕ) (why : IosReason) → OpensBlock lists words made.0 made.1 → IsBlockRefused lists words why → ⊥
head_not_both lists words made why opens refused = head_not_refused lists words opens.name opens.extended why opens.head refused

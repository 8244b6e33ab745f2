-- The words of a heading open one block, or are refused for one reason.
use Rattle.std.proofs.Common.{◌≡◌, ℕ, ◌≤◌, ◌<◌, Bool, true, false, List, [], ◌∷◌, ◌++◌, Option, Some, None, length, slice_get, get_or, inl, inr, refl, sym, ap, ◌∙◌, arith}
use Rattle.std.specs.List.{IsDistinct}
use Rattle.std.specs.Str.{bytes_eq}
use Rattle.std.proofs.lemmas.Bool.{cases_lt}
use Rattle.std.proofs.lemmas.Map.Keys.{apart_from_distinct}
use Rattle.std.proofs.lemmas.Option.{get_or_from_slice_get, slice_get_within}
use Rattle.std.proofs.lemmas.Slice.Eq.{bytes_eq-Decides}
use Rattle.ios_lex.specs.declared.reason.IosReason.{IosReason}
use Rattle.ios_lex.specs.declared.reason.IosReason.TheVariants as ios
use Rattle.ios_lex.specs.ListNames.{is_name}
use Rattle.ios_lex.specs.Phrases.{Words}
use Rattle.ios_names.specs.Names.{most_names}
use Rattle.ios_interface.specs.Block.{Block, no_lines}
use Rattle.ios_interface.specs.Headings.{IsHeading, IsNoHeading, ends_heading}
use Rattle.ios_interface.specs.Interfaces.{Begins, Interfaces, IsHeadingRefused, Opens, block_named, block_names, name_at, number_of, with_new}
use Rattle.ios_interface.proofs.NamedBlocks.{at_names, name_there, named_at}
use Rattle.ios_interface.proofs.OpenedBlocks.{last_block}

pub one_name : (words : Words) (name other : List ℕ) → IsHeading words name → IsHeading words other → name ≡ other
one_name words name other heading again =
    let whole = sym heading.whole ∙ again.whole in
    cc whole

not_both : (words : Words) (name : List ℕ) → IsHeading words name → IsNoHeading words → ⊥
not_both words name heading (IsNoHeading.nameless none) =
    let whole = sym heading.whole ∙ none in
    cc whole
not_both words name heading (IsNoHeading.bytes other rest is bytes) =
    let whole = sym heading.whole ∙ is in
    let same : name ≡ other = cc whole in
    cc (ap is_name same, heading.named, bytes)
not_both words name heading (IsNoHeading.behind other rest is more) =
    let whole = sym heading.whole ∙ is in
    let same : heading.rest ≡ rest = cc whole in
    cc (ap ends_heading same, heading.ended, more)

some_heading : (words : Words) → ((name : List ℕ) → IsHeading words name → ⊥) → (IsNoHeading words → ⊥) → ⊥
some_heading [] unnamed refused = refused (IsNoHeading.nameless refl)
some_heading (name ∷ rest) unnamed refused = decide (is_name name) (ends_heading rest) refl refl
  where
    decide : (named ended : Bool) → is_name name ≡ named → ends_heading rest ≡ ended → ⊥
    decide false ended bytes end = refused (IsNoHeading.bytes name rest refl bytes)
    decide true false bytes end = refused (IsNoHeading.behind name rest refl end)
    decide true true bytes end = unnamed name (record { rest = rest; whole = refl; named = bytes; ended = end })

absent_not_begun : (old new : Interfaces) (name : List ℕ) → Begins old name new → block_named old.blocks name ≡ None → most_names ≤ number_of old.known old.blocks name → ⊥
absent_not_begun old new name (Begins.there block found is) absent many = cc (found, absent)
absent_not_begun old new name (Begins.new absent' few is) absent many = absurd (omega (arith, few, many))

pub opened_not_refused : (old new : Interfaces) (words : Words) (place : ℕ) (why : IosReason) → Opens old words new place → IsHeadingRefused old words why → ⊥
opened_not_refused old new words place why opens (IsHeadingRefused.misread none) = not_both words opens.name opens.heading none
opened_not_refused old new words place why opens (IsHeadingRefused.too_many name heading absent many) =
    absent_not_begun old new name (rw (one_name words name opens.name heading opens.heading) opens.begins) absent many

some_block : (old : Interfaces) (name : List ℕ) → ((new : Interfaces) → Begins old name new → ⊥) → (block_named old.blocks name ≡ None → most_names ≤ number_of old.known old.blocks name → ⊥) → ⊥
some_block old name unbegun full = decide (block_named old.blocks name) refl
  where
    decide : (found : Option Block) → block_named old.blocks name ≡ found → ⊥
    decide (Some block) found = unbegun old (Begins.there block found refl)
    decide None absent =
        elim (cases_lt (number_of old.known old.blocks name) most_names) [
          | inl few ↦ unbegun (with_new old name) (Begins.new absent few refl)
          | inr many ↦ full absent many
        ]

pub begun_at : (old new : Interfaces) (name : List ℕ) → Begins old name new → (place : ℕ) × (name_at new.blocks place ≡ Some name)
begun_at old new name (Begins.there block found is) = rw is (named_at old.blocks name block found)
begun_at old new name (Begins.new absent few is) =
    rw is (length old.blocks, name_there (old.blocks ++ no_lines name _ ∷ []) (length old.blocks) (no_lines name _) (last_block old.blocks (no_lines name _)))

pub some_opened : (old : Interfaces) (words : Words) → ((new : Interfaces) (place : ℕ) → Opens old words new place → ⊥) → ((why : IosReason) → IsHeadingRefused old words why → ⊥) → ⊥
some_opened old words unopened unrefused =
    some_heading words
    (λ name heading. some_block old name
    (λ new begins. let at = begun_at old new name begins in unopened new at.0 (record { name = name; heading = heading; begins = begins; there = at.1 }))
    (λ absent many. unrefused ios.TooMany (IsHeadingRefused.too_many name heading absent many)))
    (λ none. unrefused ios.BadEntry (IsHeadingRefused.misread none))

pub one_begin : (old new other : Interfaces) (name : List ℕ) → Begins old name new → Begins old name other → new ≡ other
one_begin old new other name (Begins.there block found is) (Begins.there block' found' is') = is ∙ sym is'
one_begin old new other name (Begins.there block found is) (Begins.new absent few is') = absurd (cc (found, absent))
one_begin old new other name (Begins.new absent few is) (Begins.there block found is') = absurd (cc (found, absent))
one_begin old new other name (Begins.new absent few is) (Begins.new absent' few' is') = is ∙ sym is'

pub opened_is_one : (old new other : Interfaces) (words : Words) (place another : ℕ) → Opens old words new place → Opens old words other another → new ≡ other
opened_is_one old new other words place another opens again =
    one_begin old new other opens.name opens.begins (rw (one_name words opens.name again.name opens.heading again.heading) again.begins)

pub heading_reason_is_one : (old : Interfaces) (words : Words) (why other : IosReason) → IsHeadingRefused old words why → IsHeadingRefused old words other → why ≡ other
heading_reason_is_one old words why other (IsHeadingRefused.misread none) (IsHeadingRefused.misread none') = refl
heading_reason_is_one old words why other (IsHeadingRefused.misread none) (IsHeadingRefused.too_many name heading absent many) = absurd (not_both words name heading none)
heading_reason_is_one old words why other (IsHeadingRefused.too_many name heading absent many) (IsHeadingRefused.misread none) = absurd (not_both words name heading none)
heading_reason_is_one old words why other (IsHeadingRefused.too_many name heading absent many) (IsHeadingRefused.too_many name' heading' absent' many') = refl

-- the place too, where no two blocks have one name
names_apart : (names : List (List ℕ)) (low high : ℕ) (name : List ℕ) → IsDistinct bytes_eq names → low < high → slice_get names low ≡ Some name → slice_get names high ≡ Some name → ⊥
names_apart names low high name different below at again =
    let apart = apart_from_distinct bytes_eq names low high [] different below (slice_get_within names high name again) in
    let first : get_or names low [] ≡ name = get_or_from_slice_get names low name [] at in
    let second : get_or names high [] ≡ name = get_or_from_slice_get names high name [] again in
    let same : bytes_eq name name ≡ true = (bytes_eq-Decides name name).1 refl in
    cc

one_place : (names : List (List ℕ)) (place another : ℕ) (name : List ℕ) → IsDistinct bytes_eq names → slice_get names place ≡ Some name → slice_get names another ≡ Some name → place ≡ another
one_place names place another name different at again =
    elim (cases_lt place another) [
      | inl below ↦ absurd (names_apart names place another name different below at again)
      | inr not_below ↦ elim (cases_lt another place) [
        | inl below ↦ absurd (names_apart names another place name different below again at)
        | inr not_above ↦ omega arith
      ]
    ]

pub place_is_one : (old new : Interfaces) (words : Words) (place another : ℕ) → IsDistinct bytes_eq (block_names new.blocks) → Opens old words new place → Opens old words new another → place ≡ another
place_is_one old new words place another different opens again =
    one_place (block_names new.blocks) place another opens.name different (at_names new.blocks place ∙ opens.there)
    (at_names new.blocks another ∙ again.there ∙ ap Some (sym (one_name words opens.name again.name opens.heading again.heading)))

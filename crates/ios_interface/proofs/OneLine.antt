-- A line is read, or ignored, or refused, and one of these.
use Rattle.std.proofs.Common.{◌≡◌, false, [], ◌++◌, refl, sym, ap, ◌∙◌}
use Rattle.ios_lex.specs.declared.reason.IosReason.{IosReason}
use Rattle.ios_lex.specs.declared.reason.IosReason.TheVariants as reason
use Rattle.ios_lex.specs.Following.{Begins}
use Rattle.ios_lex.specs.NextWords.{NoName}
use Rattle.ios_lex.specs.Phrases.{Words}
use Rattle.ios_lex.proofs.SomeStop.{some_stop}
use Rattle.ios_interface.specs.Block.{Block}
use Rattle.ios_interface.specs.declared.kind.Kind.{Kind}
use Rattle.ios_interface.specs.declared.kind.Kind.TheVariants as kinds
use Rattle.ios_interface.specs.Grammar.{Line, opening_words}
use Rattle.ios_lex.specs.Openings.{joined}
use Rattle.ios_interface.specs.Reading.{Fails, IsIgnored, IsRefused, IsUnmodelled, Makes, Takes, with_address, with_list, with_setting}
use Rattle.ios_interface.specs.Refusal.{reason_at}
use Rattle.ios_interface.proofs.AddressLines.{some_address_line}
use Rattle.ios_interface.proofs.GroupLines.{some_group_line}
use Rattle.ios_interface.proofs.OneOpening.{no_modelled_opening, one_line_opening, one_unmodelled}
use Rattle.ios_interface.proofs.OneReading.{made_not_refused, one_block, one_reason}

pub taken_not_ignored : (block new : Block) (words : Words) → Takes block words new → IsIgnored words → ⊥
taken_not_ignored block new words x ignored = ignored.unopened x.kind x.rest x.opened

pub taken_not_refused : (block new : Block) (words : Words) (why : IosReason) → Takes block words new → IsRefused words why → ⊥
taken_not_refused block new words why x (IsRefused.unmodelled opening is) = no_modelled_opening block new x.kind words x.rest opening x.opened x.makes is
taken_not_refused block new words why x (IsRefused.rest kind rest why' harmless opened fails) =
    let one = one_line_opening x.kind kind x.rest rest (sym x.opened ∙ opened) in
    made_not_refused block x.rest new x.kind why x.makes (rw (one.kind_same, one.rest_same) fails)

pub ignored_not_refused : (words : Words) (why : IosReason) → IsIgnored words → IsRefused words why → ⊥
ignored_not_refused words why ignored (IsRefused.unmodelled opening is) = ignored.harmless opening is
ignored_not_refused words why ignored (IsRefused.rest kind rest why' harmless opened fails) = ignored.unopened kind rest opened

pub blocks_are_one : (block new other : Block) (words : Words) → Takes block words new → Takes block words other → new ≡ other
blocks_are_one block new other words x y =
    let one = one_line_opening x.kind y.kind x.rest y.rest (sym x.opened ∙ y.opened) in
    one_block block x.rest new other x.kind x.makes (rw (one.kind_same, one.rest_same) y.makes)

pub reasons_are_one : (words : Words) (why other : IosReason) → IsRefused words why → IsRefused words other → why ≡ other
reasons_are_one words why other (IsRefused.unmodelled opening is) (IsRefused.unmodelled opening' is') = ap (λ o. reason.Unmodelled (joined o)) (one_unmodelled words opening opening' is is')
reasons_are_one words why other (IsRefused.unmodelled opening is) (IsRefused.rest kind rest w harmless opened fails) = absurd (harmless opening is)
reasons_are_one words why other (IsRefused.rest kind rest w harmless opened fails) (IsRefused.unmodelled opening is) = absurd (harmless opening is)
reasons_are_one words why other (IsRefused.rest kind rest w harmless opened fails) (IsRefused.rest kind' rest' w' harmless' opened' fails') =
    let one = one_line_opening kind kind' rest rest' (sym opened ∙ opened') in
    one_reason kind rest why other fails (rw (one.kind_same, one.rest_same) fails')

-- a line of each kind begins
kind_begins : (kind : Kind) → Begins (Line kind false) []
kind_begins kinds.Address = some_address_line
kind_begins kinds.AccessGroup = some_group_line
kind_begins (kinds.Setting setting) = ([], refl)

-- the rest of a line makes something of a block, where it is a whole one
whole_line : (block : Block) (kind : Kind) (rest : Words) → Line kind false rest → (new : Block) × Makes block rest new kind
whole_line block kinds.Address rest line = (with_address block line.0 line.1, Makes.address line.0 line.1 line.2 refl)
whole_line block kinds.AccessGroup rest line = (with_list block line.0 line.1, Makes.group line.0 line.1 line.2 refl)
whole_line block (kinds.Setting setting) rest line = (with_setting block setting, Makes.setting setting line refl)

some_rest : (block : Block) (kind : Kind) (rest : Words) → ((new : Block) → Makes block rest new kind → ⊥) → ((why : IosReason) → Fails kind rest why → ⊥) → ⊥
some_rest block kind rest unread unrefused =
    some_stop NoName (Line kind) rest (kind_begins kind)
    (λ front more word due over whole stops. unrefused (reason_at kind due over word) (Fails.stop front more word due over whole stops))
    (λ begins. unrefused reason.BadEntry (Fails.short begins (λ line. let made = whole_line block kind rest line in unread made.0 made.1)))

pub some_line : (block : Block) (words : Words) → ((new : Block) → Takes block words new → ⊥) → (IsIgnored words → ⊥) → ((why : IosReason) → IsRefused words why → ⊥) → ⊥
some_line block words unread unignored unrefused = unignored (record { unopened = unopened; harmless = harmless })
  where
    harmless : (opening : Words) → IsUnmodelled words opening → ⊥
    harmless opening is = unrefused (reason.Unmodelled (joined opening)) (IsRefused.unmodelled opening is)

    unopened : (kind : Kind) (rest : Words) → words ≡ opening_words kind ++ rest → ⊥
    unopened kind rest opened =
        some_rest block kind rest (λ new makes. unread new (record { kind = kind; rest = rest; opened = opened; makes = makes }))
        (λ why fails. unrefused why (IsRefused.rest kind rest why harmless opened fails))

-- A line makes one draft, or is refused for one reason.
use Rattle.std.proofs.Common.{◌≡◌, ℕ, Bool, true, false, List, refl, sym, ap, ◌∙◌}
use Rattle.std.specs.Str.{bytes_eq}
use Rattle.ios_lex.specs.Lines.{Reading}
use Rattle.ios_lex.specs.Phrases.{Words}
use Rattle.ios_lex.specs.declared.reason.IosReason.{IosReason}
use Rattle.ios_lex.specs.declared.taken.Taken.{Taken}
use Rattle.ios_acl.specs.Block.{kind_word}
use Rattle.ios_acl.specs.List.{AccessList}
use Rattle.ios_lists.specs.Heads.{IsHead}
use Rattle.ios_lists.specs.Lists.{list_named, with_list}
use Rattle.ios_lists.specs.Numbered.{ReadsNumbered}
use Rattle.ios_lists.proofs.OneEntry.{entry_not_both, entry_reason, entry_same}
use Rattle.ios_lists.proofs.OneHead.{head_not_refused, head_reason}
use Rattle.ios_lists.proofs.OneNumbered.{numbered_not_both, numbered_reason, numbered_same}
use Rattle.ios_interface.specs.Headings.{IsHeading}
use Rattle.ios_interface.specs.Interfaces.{Begins, Interfaces, IsHeadingRefused}
use Rattle.ios_interface.proofs.OneHeading.{begun_at, heading_reason_is_one, one_begin, one_name, opened_not_refused}
use Rattle.ios_config.proofs.OneSetting.{setting_not_both, settings_are_one}
use Rattle.ios_interface.proofs.OneLine as settings
use Rattle.ios_nat.proofs.OneReading as nat
use Rattle.ios_route.proofs.OneRefusal as routes
use Rattle.ios_route.proofs.OneRoute.{route_is_one}
use Rattle.ios_config.specs.Line.{IsLineRefused, Makes, Refuses, Rule, Takes, counting, with_entry, with_head, with_interface, with_numbered, with_route, with_translation}
use Rattle.ios_config.specs.Router.{Draft}
use Rattle.ios_config.proofs.OneRule.{one_rule}

one_kind_word : (extended other : Bool) → kind_word extended ≡ kind_word other → extended ≡ other
one_kind_word true true same = refl
one_kind_word true false same = ap (bytes_eq (kind_word true)) same
one_kind_word false true same = ap (bytes_eq (kind_word true)) same
one_kind_word false false same = refl

one_head : (draft : Draft) (rest : Words) (name other : List ℕ) (extended extended' : Bool) → IsHead draft.lists rest name extended → IsHead draft.lists rest other extended'
    → with_head draft (with_list draft.lists (list_named draft.lists name extended)) name
    ≡ with_head draft (with_list draft.lists (list_named draft.lists other extended')) other
one_head draft rest name other extended extended' is is' =
    let whole = sym is.whole ∙ is'.whole in
    let names : name ≡ other = cc whole in
    let kinds : extended ≡ extended' = one_kind_word extended extended' (cc whole) in
    cc (names, kinds)

one_interface : (draft : Draft) (rest : Words) (new new' : Interfaces) (name other : List ℕ) → IsHeading rest name → IsHeading rest other → Begins draft.interfaces name new
    → Begins draft.interfaces other new' → with_interface draft new name ≡ with_interface draft new' other
one_interface draft rest new new' name other heading heading' begins begins' =
    let names = one_name rest other name heading' heading in
    let one = one_begin draft.interfaces new new' name begins (rw names at begins') in
    cc (one, names)

interface_not_refused : (draft : Draft) (rest : Words) (new : Interfaces) (name : List ℕ) (why : IosReason) → IsHeading rest name → Begins draft.interfaces name new
    → IsHeadingRefused draft.interfaces rest why → ⊥
interface_not_refused draft rest new name why heading begins refused =
    let at = begun_at draft.interfaces new name begins in
    opened_not_refused draft.interfaces new rest at.0 why (record { name = name; heading = heading; begins = begins; there = at.1 }) refused

one_numbered : (draft : Draft) (rest : Words) (new other : List AccessList) (taken taken' : Taken) → ReadsNumbered draft.lists rest new taken → ReadsNumbered draft.lists rest other taken'
    → counting (with_numbered draft new) taken ≡ counting (with_numbered draft other) taken'
one_numbered draft rest new other taken taken' reads reads' =
    ap (λ (made : List AccessList × Taken). counting (with_numbered draft made.0) made.1) (numbered_same draft.lists rest (new, taken) (other, taken') reads reads')

made_is_one : (draft new other : Draft) (number : ℕ) (words : Words) (rule : Rule) → Makes draft number words rule new → Makes draft number words rule other → new ≡ other
made_is_one draft new other number words rule Makes.ignored Makes.ignored = refl
made_is_one draft new other number words rule (Makes.entry name made reads) (Makes.entry name' made' reads') =
    ap (with_entry draft) (entry_same draft.lists name words made made' reads reads')
made_is_one draft new other number words rule (Makes.setting name made taken reads) (Makes.setting name' made' taken' reads') =
    let one = settings_are_one draft.interfaces.blocks name words made made' taken taken' reads reads' in
    cc (one.0, one.1)
made_is_one draft new other number words rule (Makes.numbered rest made taken reads) (Makes.numbered rest' made' taken' reads') =
    one_numbered draft rest made made' taken taken' reads reads'
made_is_one draft new other number words rule (Makes.list rest name extended head) (Makes.list rest' name' extended' head') =
    one_head draft rest name name' extended extended' head head'
made_is_one draft new other number words rule (Makes.interface rest made name heading begins) (Makes.interface rest' made' name' heading' begins') =
    one_interface draft rest made made' name name' heading heading' begins begins'
made_is_one draft new other number words rule (Makes.route rest route is line) (Makes.route rest' route' is' line') =
    ap (with_route draft) (route_is_one route route' rest (line ∙ sym line') is is')
made_is_one draft new other number words rule (Makes.pool rest table reads) (Makes.pool rest' table' reads') =
    ap (with_translation draft) (nat.tables_are_one draft.nat table table' number words reads reads')
made_is_one draft new other number words rule (Makes.source word rest table reads) (Makes.source word' rest' table' reads') =
    ap (with_translation draft) (nat.tables_are_one draft.nat table table' number words reads reads')
made_is_one draft new other number words rule Makes.cut Makes.cut = refl

reason_is_one : (draft : Draft) (words : Words) (rule : Rule) (why other : IosReason) → Refuses draft words rule why → Refuses draft words rule other → why ≡ other
reason_is_one draft words rule why other (Refuses.entry name why' is) (Refuses.entry name' other' is') = entry_reason draft.lists name words why other is is'
reason_is_one draft words rule why other (Refuses.setting name why' is) (Refuses.setting name' other' is') = settings.reasons_are_one words why other is is'
reason_is_one draft words rule why other (Refuses.numbered rest why' is) (Refuses.numbered rest' other' is') = numbered_reason draft.lists rest why other is is'
reason_is_one draft words rule why other (Refuses.list rest why' is) (Refuses.list rest' other' is') = head_reason draft.lists rest why other is is'
reason_is_one draft words rule why other (Refuses.interface rest why' is) (Refuses.interface rest' other' is') = heading_reason_is_one draft.interfaces rest why other is is'
reason_is_one draft words rule why other (Refuses.route rest why' is) (Refuses.route rest' other' is') = routes.reason_is_one rest why other is is'
reason_is_one draft words rule why other (Refuses.pool rest why' is) (Refuses.pool rest' other' is') = nat.reasons_are_one draft.nat words why other is is'
reason_is_one draft words rule why other (Refuses.source word rest why' is) (Refuses.source word' rest' other' is') = nat.reasons_are_one draft.nat words why other is is'
reason_is_one draft words rule why other (Refuses.unmodelled opening) (Refuses.unmodelled opening') = refl

made_not_refused : (draft new : Draft) (number : ℕ) (words : Words) (rule : Rule) (why : IosReason) → Makes draft number words rule new → Refuses draft words rule why → ⊥
made_not_refused draft new number words rule why Makes.ignored refused = elim refused [ ]
made_not_refused draft new number words rule why Makes.cut refused = elim refused [ ]
made_not_refused draft new number words rule why (Makes.entry name made reads) (Refuses.entry name' why' is) = entry_not_both draft.lists name words made why reads is
made_not_refused draft new number words rule why (Makes.setting name made taken reads) (Refuses.setting name' why' is) = setting_not_both draft.interfaces.blocks name words made taken why reads is
made_not_refused draft new number words rule why (Makes.numbered rest made taken reads) (Refuses.numbered rest' why' is) = numbered_not_both draft.lists rest (made, taken) why reads is
made_not_refused draft new number words rule why (Makes.list rest name extended head) (Refuses.list rest' why' is) = head_not_refused draft.lists rest name extended why head is
made_not_refused draft new number words rule why (Makes.interface rest made name heading begins) (Refuses.interface rest' why' is) = interface_not_refused draft rest made name why heading begins is
made_not_refused draft new number words rule why (Makes.route rest route is line) (Refuses.route rest' why' refused) = routes.not_both route rest why is refused
made_not_refused draft new number words rule why (Makes.pool rest table reads) (Refuses.pool rest' why' is) = nat.no_refused_reading draft.nat table number words why reads is
made_not_refused draft new number words rule why (Makes.source word rest table reads) (Refuses.source word' rest' why' is) = nat.no_refused_reading draft.nat table number words why reads is

pub takes_are_one : (draft new other : Draft) (line : Reading) → Takes draft line new → Takes draft line other → new ≡ other
takes_are_one draft new other line takes takes' =
    let same = one_rule draft.block line takes.rule takes'.rule takes.falls takes'.falls in
    made_is_one draft new other line.number line.words takes.rule takes.makes (rw same takes'.makes)

pub refusals_are_one : (draft : Draft) (line : Reading) (why other : IosReason) → IsLineRefused draft line why → IsLineRefused draft line other → why ≡ other
refusals_are_one draft line why other refused refused' =
    let same = one_rule draft.block line refused.rule refused'.rule refused.falls refused'.falls in
    reason_is_one draft line.words refused.rule why other refused.refuses (rw same refused'.refuses)

pub taken_is_not_refused : (draft new : Draft) (line : Reading) (why : IosReason) → Takes draft line new → IsLineRefused draft line why → ⊥
taken_is_not_refused draft new line why takes refused =
    let same = one_rule draft.block line takes.rule refused.rule takes.falls refused.falls in
    made_not_refused draft new line.number line.words takes.rule why takes.makes (rw same refused.refuses)

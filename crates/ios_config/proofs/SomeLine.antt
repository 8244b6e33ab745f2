-- A line is taken or refused, where the block that is open is there.
use Rattle.std.proofs.Common.{◌≡◌, ℕ, List, [], ◌∷◌, Some, refl, ap}
use Rattle.ios_lex.specs.Lines.{Reading}
use Rattle.ios_lex.specs.Openings.{joined}
use Rattle.ios_lex.specs.Phrases.{Words}
use Rattle.ios_lex.specs.declared.reason.IosReason.{IosReason}
use Rattle.ios_lex.specs.declared.reason.IosReason.TheVariants as ios
use Rattle.ios_acl.specs.Block.{IsWithinBlock}
use Rattle.ios_acl.specs.List.{AccessList}
use Rattle.ios_lists.proofs.BlockKinds.{HasList, entry_list, head_list}
use Rattle.ios_lists.proofs.OneEntry.{entry_not_neither}
use Rattle.ios_lists.proofs.SomeReading.{some_head, some_numbered}
use Rattle.ios_interface.specs.Block.{Block}
use Rattle.ios_interface.specs.Interfaces.{block_named}
use Rattle.ios_interface.proofs.OneHeading.{some_opened}
use Rattle.ios_nat.proofs.SomeReading.{some_reading}
use Rattle.ios_route.proofs.OneRefusal.{not_neither}
use Rattle.ios_config.specs.Line.{FallsUnder, IsCommand, IsLineRefused, IsOfRule, Makes, Refuses, Rule, Takes, ignoring, rule_within}
use Rattle.ios_config.specs.Router.{Draft, OpenBlock, no_lines}
use Rattle.ios_config.specs.declared.command.Command.{Command}
use Rattle.ios_config.specs.declared.command.Command.TheVariants as commands
use Rattle.ios_config.proofs.OneRule.{some_rule}
use Rattle.ios_config.proofs.OneSetting.{some_setting}
use Rattle.ios_config.proofs.OpenBlocks.{begun_interface, set_interface, with_line}

-- the block that is open is that of a list, or of an interface, that is there
abbrev pub IsThere : List AccessList → List Block → OpenBlock → Type 0
IsThere lists blocks OpenBlock.nothing = Unit {0}
IsThere lists blocks (OpenBlock.list_block name) = HasList lists name
IsThere lists blocks (OpenBlock.interface_block name) = (block : Block) × (block_named blocks name ≡ Some block)

abbrev pub IsOpenThere : Draft → Type 0
IsOpenThere draft = IsThere draft.lists draft.interfaces.blocks draft.block

pub open_none : (known : List (List ℕ)) → IsOpenThere (no_lines known)
open_none known = tt

-- no draft is made of the line, and no reason is one for it
abbrev IsUntaken : Draft → Reading → Type 0
IsUntaken draft line = (next : Draft) → Takes draft line next → IsOpenThere next → ⊥

abbrev IsUnrefused : Draft → Reading → Type 0
IsUnrefused draft line = (why : IosReason) → IsLineRefused draft line why → ⊥

taking : (draft next : Draft) (line : Reading) (rule : Rule) → IsUntaken draft line → FallsUnder draft.block line rule → Makes draft line.number line.words rule next → IsOpenThere next → ⊥
taking draft next line rule untaken falls makes there = untaken next (record { rule = rule; falls = falls; makes = makes }) there

refusing : (draft : Draft) (line : Reading) (rule : Rule) (why : IosReason) → IsUnrefused draft line → FallsUnder draft.block line rule → Refuses draft line.words rule why → ⊥
refusing draft line rule why unrefused falls refuses = unrefused why (record { rule = rule; falls = falls; refuses = refuses })

some_within : (draft : Draft) (line : Reading) (block : OpenBlock) → draft.block ≡ block → IsThere draft.lists draft.interfaces.blocks block → IsWithinBlock line
    → IsUntaken draft line → IsUnrefused draft line → ⊥
some_within draft line OpenBlock.nothing is there within untaken unrefused =
    let own : FallsUnder draft.block line (rule_within draft.block) = FallsUnder.within within in
    let falls : FallsUnder draft.block line Rule.ignored = rw (ap rule_within is) at own in
    taking draft (ignoring draft) line Rule.ignored untaken falls Makes.ignored tt
some_within draft line (OpenBlock.list_block name) is there within untaken unrefused =
    let own : FallsUnder draft.block line (rule_within draft.block) = FallsUnder.within within in
    let falls : FallsUnder draft.block line (Rule.entry name) = rw (ap rule_within is) at own in
    entry_not_neither draft.lists name there.0 line.words there.1
    (λ lists reads. taking draft _ line (Rule.entry name) untaken falls (Makes.entry name lists reads) (rw is (entry_list draft.lists name line.words lists reads)))
    (λ why refused. refusing draft line (Rule.entry name) why unrefused falls (Refuses.entry name why refused))
some_within draft line (OpenBlock.interface_block name) is there within untaken unrefused =
    let own : FallsUnder draft.block line (rule_within draft.block) = FallsUnder.within within in
    let falls : FallsUnder draft.block line (Rule.setting name) = rw (ap rule_within is) at own in
    some_setting draft.interfaces.blocks name line.words there.0 there.1
    (λ blocks taken reads. taking draft _ line (Rule.setting name) untaken falls (Makes.setting name blocks taken reads) (rw is (set_interface draft.interfaces.blocks name line.words blocks taken reads)))
    (λ why refused. refusing draft line (Rule.setting name) why unrefused falls (Refuses.setting name why refused))

some_command : (draft : Draft) (line : Reading) (command : Command) (rest : Words) → FallsUnder draft.block line (Rule.command command rest) → IsUntaken draft line → IsUnrefused draft line → ⊥
some_command draft line commands.NumberedList rest falls untaken unrefused =
    some_numbered draft.lists rest
    (λ lists taken reads. taking draft _ line _ untaken falls (Makes.numbered rest lists taken reads) tt)
    (λ why refused. refusing draft line _ why unrefused falls (Refuses.numbered rest why refused))
some_command draft line commands.ListBlock rest falls untaken unrefused =
    some_head draft.lists rest
    (λ lists place opens. taking draft _ line _ untaken falls (Makes.list rest opens.name opens.extended opens.head) (head_list draft.lists opens.name opens.extended))
    (λ why refused. refusing draft line _ why unrefused falls (Refuses.list rest why refused))
some_command draft line commands.InterfaceBlock rest falls untaken unrefused =
    some_opened draft.interfaces rest
    (λ new place opens. taking draft _ line _ untaken falls (Makes.interface rest new opens.name opens.heading opens.begins) (begun_interface draft.interfaces new opens.name opens.begins))
    (λ why refused. refusing draft line _ why unrefused falls (Refuses.interface rest why refused))
some_command draft line commands.Route rest falls untaken unrefused =
    not_neither rest
    (λ route is. taking draft _ line _ untaken falls (Makes.route rest (record route { line = line.number }) (with_line route line.number rest is) refl) tt)
    (λ why refused. refusing draft line _ why unrefused falls (Refuses.route rest why refused))
some_command draft line commands.Pool rest falls untaken unrefused =
    some_reading draft.nat line.number line.words
    (λ table reads. taking draft _ line _ untaken falls (Makes.pool rest table reads) tt)
    (λ why refused. refusing draft line _ why unrefused falls (Refuses.pool rest why refused))
some_command draft line commands.Source [] falls untaken unrefused = taking draft (ignoring draft) line _ untaken falls Makes.cut tt
some_command draft line commands.Source (word ∷ rest) falls untaken unrefused =
    some_reading draft.nat line.number line.words
    (λ table reads. taking draft _ line _ untaken falls (Makes.source word rest table reads) tt)
    (λ why refused. refusing draft line _ why unrefused falls (Refuses.source word rest why refused))

some_outside : (draft : Draft) (line : Reading) (rule : Rule) → IsCommand line → IsOfRule line.words rule → IsUntaken draft line → IsUnrefused draft line → ⊥
some_outside draft line rule outside (IsOfRule.command command rest opened) untaken unrefused =
    some_command draft line command rest (FallsUnder.outside _ outside (IsOfRule.command command rest opened)) untaken unrefused
some_outside draft line rule outside (IsOfRule.unmodelled opening is) untaken unrefused =
    refusing draft line _ (ios.Unmodelled (joined opening)) unrefused (FallsUnder.outside _ outside (IsOfRule.unmodelled opening is)) (Refuses.unmodelled opening)
some_outside draft line rule outside (IsOfRule.other none harmless) untaken unrefused =
    taking draft (ignoring draft) line _ untaken (FallsUnder.outside _ outside (IsOfRule.other none harmless)) Makes.ignored tt

some_ruled : (draft : Draft) (line : Reading) (rule : Rule) → IsOpenThere draft → FallsUnder draft.block line rule → IsUntaken draft line → IsUnrefused draft line → ⊥
some_ruled draft line rule there (FallsUnder.banner is) untaken unrefused = taking draft (ignoring draft) line _ untaken (FallsUnder.banner is) Makes.ignored tt
some_ruled draft line rule there (FallsUnder.within within) untaken unrefused = some_within draft line draft.block refl there within untaken unrefused
some_ruled draft line rule there (FallsUnder.outside rule' outside of) untaken unrefused = some_outside draft line rule outside of untaken unrefused

pub some_line : (draft : Draft) (line : Reading) → IsOpenThere draft → ((next : Draft) → Takes draft line next → IsOpenThere next → ⊥)
    → ((why : IosReason) → IsLineRefused draft line why → ⊥) → ⊥
some_line draft line there untaken unrefused = some_rule draft.block line (λ rule falls. some_ruled draft line rule there falls untaken unrefused)

-- What the rule of a line says of it, and which block is open behind it.
use Rattle.std.proofs.Common.{◌≡◌, ℕ, Bool, true, false, [], ◌∷◌, ◌++◌, refl, sym, ap, ◌∙◌, arith}
use Rattle.std.proofs.lemmas.Bool.Decides.{nat_tests}
use Rattle.ios_lex.specs.Lines.{Reading}
use Rattle.ios_lex.specs.ListNames.{has_kind, is_foreign}
use Rattle.ios_lex.specs.Phrases.{Words}
use Rattle.ios_acl.specs.Block.{IsWithinBlock, kind_word}
use Rattle.ios_config.specs.Line.{FallsUnder, IsCommand, IsOfRule, Makes, Rule, Takes, rule_within}
use Rattle.ios_config.specs.OwnLines.{Ignores, IsHeadingOf, OpenBehind}
use Rattle.ios_config.specs.Router.{Draft, OpenBlock}
use Rattle.ios_config.specs.Commands.{opening_words}
use Rattle.ios_config.specs.declared.command.Command.{Command}
use Rattle.ios_config.specs.declared.command.Command.TheVariants as commands
use Rattle.ios_config.proofs.OneRule.{one_command}

-- a line of this rule
abbrev pub Fits : OpenBlock → Reading → Rule → Type 0
Fits block line Rule.ignored = Ignores block line line.words × OpenBehind block line OpenBlock.nothing
Fits block line (Rule.entry name) = IsWithinBlock line × (block ≡ OpenBlock.list_block name)
Fits block line (Rule.setting name) = IsWithinBlock line × (block ≡ OpenBlock.interface_block name)
Fits block line (Rule.command command rest) = IsCommand line × (line.words ≡ opening_words command ++ rest)
Fits block line (Rule.unmodelled opening) = Unit {0}

within_fits : (block : OpenBlock) (line : Reading) → IsWithinBlock line → Fits block line (rule_within block)
within_fits OpenBlock.nothing line within = (Ignores.loose within refl, OpenBehind.within within)
within_fits (OpenBlock.list_block name) line within = (within, refl)
within_fits (OpenBlock.interface_block name) line within = (within, refl)

heading_command : (words : Words) (next : OpenBlock) → IsHeadingOf words next → ((command : Command) (rest : Words) → words ≡ opening_words command ++ rest → ⊥) → ⊥
heading_command words next (IsHeadingOf.list kind name is) none = none commands.ListBlock (kind ∷ name ∷ []) is
heading_command words next (IsHeadingOf.interface name rest is) none = none commands.InterfaceBlock (name ∷ rest) is

outside_fits : (block : OpenBlock) (line : Reading) (rule : Rule) → IsCommand line → IsOfRule line.words rule → Fits block line rule
outside_fits block line rule outside (IsOfRule.command command rest opened) = (outside, opened)
outside_fits block line rule outside (IsOfRule.unmodelled opening is) = tt
outside_fits block line rule outside (IsOfRule.other none harmless) =
    (Ignores.unknown outside none harmless, OpenBehind.other outside (λ next heading. heading_command line.words next heading none))

pub fits : (block : OpenBlock) (line : Reading) (rule : Rule) → FallsUnder block line rule → Fits block line rule
fits block line rule (FallsUnder.banner is) = (Ignores.banner is, OpenBehind.banner is)
fits block line rule (FallsUnder.within within) = within_fits block line within
fits block line rule (FallsUnder.outside rule' outside of) = outside_fits block line rule outside of

abbrev opens_block : Rule → Bool
opens_block Rule.ignored = false
opens_block (Rule.entry name) = false
opens_block (Rule.setting name) = false
opens_block (Rule.command commands.NumberedList rest) = false
opens_block (Rule.command commands.ListBlock rest) = true
opens_block (Rule.command commands.InterfaceBlock rest) = true
opens_block (Rule.command commands.Route rest) = false
opens_block (Rule.command commands.Pool rest) = false
opens_block (Rule.command commands.Source rest) = false
opens_block (Rule.unmodelled opening) = false

not_heading : (words : Words) (command : Command) (rest : Words) (next : OpenBlock) → opens_block (Rule.command command rest) ≡ false → words ≡ opening_words command ++ rest
    → IsHeadingOf words next → ⊥
not_heading words command rest next closed opened (IsHeadingOf.list kind name is) =
    let same = one_command command commands.ListBlock rest (kind ∷ name ∷ []) (sym opened ∙ is) in
    cc (ap opens_block same, closed)
not_heading words command rest next closed opened (IsHeadingOf.interface name more is) =
    let same = one_command command commands.InterfaceBlock rest (name ∷ more) (sym opened ∙ is) in
    cc (ap opens_block same, closed)

closes : (block : OpenBlock) (line : Reading) (command : Command) (rest : Words) → opens_block (Rule.command command rest) ≡ false → FallsUnder block line (Rule.command command rest)
    → OpenBehind block line OpenBlock.nothing
closes block line command rest closed falls =
    let fit = fits block line (Rule.command command rest) falls in
    OpenBehind.other fit.0 (λ next heading. not_heading line.words command rest next closed fit.1 heading)

behind_made : (draft next : Draft) (line : Reading) (rule : Rule) → FallsUnder draft.block line rule → Makes draft line.number line.words rule next → OpenBehind draft.block line next.block
behind_made draft next line rule falls Makes.ignored = (fits draft.block line Rule.ignored falls).1
behind_made draft next line rule falls (Makes.entry name lists reads) = OpenBehind.within (fits draft.block line (Rule.entry name) falls).0
behind_made draft next line rule falls (Makes.setting name blocks taken reads) = OpenBehind.within (fits draft.block line (Rule.setting name) falls).0
behind_made draft next line rule falls (Makes.numbered rest lists taken reads) = closes draft.block line commands.NumberedList rest refl falls
behind_made draft next line rule falls (Makes.list rest name extended head) =
    let fit = fits draft.block line (Rule.command commands.ListBlock rest) falls in
    OpenBehind.heading (OpenBlock.list_block name) fit.0 (IsHeadingOf.list (kind_word extended) name (fit.1 ∙ ap (λ (more : Words). opening_words commands.ListBlock ++ more) head.whole))
behind_made draft next line rule falls (Makes.interface rest interfaces name heading begins) =
    let fit = fits draft.block line (Rule.command commands.InterfaceBlock rest) falls in
    OpenBehind.heading (OpenBlock.interface_block name) fit.0
    (IsHeadingOf.interface name heading.rest (fit.1 ∙ ap (λ (more : Words). opening_words commands.InterfaceBlock ++ more) heading.whole))
behind_made draft next line rule falls (Makes.route rest route is number) = closes draft.block line commands.Route rest refl falls
behind_made draft next line rule falls (Makes.pool rest table reads) = closes draft.block line commands.Pool rest refl falls
behind_made draft next line rule falls (Makes.source word rest table reads) = closes draft.block line commands.Source (word ∷ rest) refl falls
behind_made draft next line rule falls Makes.cut = closes draft.block line commands.Source [] refl falls

pub open_behind : (draft next : Draft) (line : Reading) → Takes draft line next → OpenBehind draft.block line next.block
open_behind draft next line takes = behind_made draft next line takes.rule takes.falls takes.makes

-- a number of another protocol's lists is of no kind
pub kind_not_foreign : (n : ℕ) (extended : Bool) → has_kind extended n ≡ true → is_foreign n ≡ true → ⊥
kind_not_foreign n true kind foreign = absurd (grind (arith, nat_tests))
kind_not_foreign n false kind foreign = absurd (grind (arith, nat_tests))

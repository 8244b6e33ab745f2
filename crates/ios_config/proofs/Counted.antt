-- Lines that are ignored are counted.
use Rattle.std.proofs.Common.{◌≡◌, ℕ, ◌+◌, true, List, [], ◌∷◌, codes, length, refl, ap, ◌∙◌, arith}
use Rattle.ios_lex.specs.ListNames.{IsListNumber, is_foreign}
use Rattle.ios_lex.specs.Lines.{AreLines, Reading}
use Rattle.ios_lex.specs.Phrases.{Words}
use Rattle.ios_lex.specs.RawLines.{raw_lines}
use Rattle.ios_lex.specs.declared.taken.Taken.{Taken}
use Rattle.ios_lex.specs.declared.taken.Taken.TheVariants as taken
use Rattle.ios_lex.proofs.DecimalTexts.{decimal_is_one}
use Rattle.ios_lex.proofs.OneReading.{lines_are_one}
use Rattle.ios_acl.specs.List.{AccessList}
use Rattle.ios_interface.specs.Block.{Block}
use Rattle.ios_interface.specs.Reading.{IsIgnored, Reads as ReadsSetting}
use Rattle.ios_interface.proofs.OneLine.{taken_not_ignored}
use Rattle.ios_lists.specs.Numbered.{ReadsNumbered}
use Rattle.ios_config.specs.Line.{FallsUnder, IsOfRule, Makes, Rule, Takes, ignored_by, rule_within}
use Rattle.ios_config.specs.OwnLines.{AllSaid, Counts, Ignores}
use Rattle.ios_config.specs.Reading.{Reads, TakesAll}
use Rattle.ios_config.specs.Router.{Draft, OpenBlock, Router, no_lines}
use Rattle.ios_config.specs.declared.command.Command.TheVariants as commands
use Rattle.ios_config.proofs.LineRules.{fits, kind_not_foreign, open_behind}
use Rattle.ios_config.proofs.OneRule.{one_rule}

-- the rule of a line that is ignored
data IsIgnoredRule (line : Reading) : Rule → Type 0 where
  plain : IsIgnoredRule line Rule.ignored
  in_block : (name : List ℕ) → IsIgnored line.words → IsIgnoredRule line (Rule.setting name)
  of_number : (name : List ℕ) (n : ℕ) (rest : Words) → IsListNumber name n → is_foreign n ≡ true → IsIgnoredRule line (Rule.command commands.NumberedList (name ∷ rest))
  of_source : IsIgnoredRule line (Rule.command commands.Source [])

ignored_rule : (block : OpenBlock) (line : Reading) (words : Words) (rule : Rule) → FallsUnder block line rule → Ignores block line words → IsIgnoredRule line rule
ignored_rule block line words rule falls (Ignores.banner is) = rw (one_rule block line rule Rule.ignored falls (FallsUnder.banner is)) IsIgnoredRule.plain
ignored_rule block line words rule falls (Ignores.loose within is) =
    let own : FallsUnder block line (rule_within block) = FallsUnder.within within in
    let loose : FallsUnder block line Rule.ignored = rw (ap rule_within is) at own in
    rw (one_rule block line rule Rule.ignored falls loose) IsIgnoredRule.plain
ignored_rule block line words rule falls (Ignores.setting name within is ignored) =
    let own : FallsUnder block line (rule_within block) = FallsUnder.within within in
    let setting : FallsUnder block line (Rule.setting name) = rw (ap rule_within is) at own in
    rw (one_rule block line rule (Rule.setting name) falls setting) (IsIgnoredRule.in_block name ignored)
ignored_rule block line words rule falls (Ignores.foreign name n rest outside whole number foreign) =
    let numbered : FallsUnder block line (Rule.command commands.NumberedList (name ∷ rest)) =
    FallsUnder.outside (Rule.command commands.NumberedList (name ∷ rest)) outside (IsOfRule.command commands.NumberedList (name ∷ rest) whole) in
    rw (one_rule block line rule (Rule.command commands.NumberedList (name ∷ rest)) falls numbered) (IsIgnoredRule.of_number name n rest number foreign)
ignored_rule block line words rule falls (Ignores.cut outside whole) =
    let source : FallsUnder block line (Rule.command commands.Source []) =
    FallsUnder.outside (Rule.command commands.Source []) outside (IsOfRule.command commands.Source [] whole) in
    rw (one_rule block line rule (Rule.command commands.Source []) falls source) IsIgnoredRule.of_source
ignored_rule block line words rule falls (Ignores.unknown outside none harmless) =
    let other : FallsUnder block line Rule.ignored = FallsUnder.outside Rule.ignored outside (IsOfRule.other none harmless) in
    rw (one_rule block line rule Rule.ignored falls other) IsIgnoredRule.plain

setting_ignored : (old new : Block) (words : Words) (what : Taken) → ReadsSetting old words new what → IsIgnored words → ignored_by what ≡ 1
setting_ignored old new words taken.Modelled takes ignored = absurd (taken_not_ignored old new words takes ignored)
setting_ignored old new words taken.Ignored reads ignored = refl

foreign_ignored : (lists new : List AccessList) (name : List ℕ) (n : ℕ) (rest : Words) (what : Taken) → ReadsNumbered lists (name ∷ rest) new what → IsListNumber name n → is_foreign n ≡ true
    → ignored_by what ≡ 1
foreign_ignored lists new name n rest what (ReadsNumbered.modelled other asked words whole numbered begins into) number foreign =
    let same : other ≡ name = cc whole in
    let one : numbered.n ≡ n = decimal_is_one 10 name numbered.n n (rw same at numbered.number) number in
    absurd (kind_not_foreign n asked (rw one at numbered.kind) foreign)
foreign_ignored lists new name n rest what (ReadsNumbered.foreign other m more whole number' foreign' same) number foreign = refl

ignored_adds : (draft next : Draft) (line : Reading) (rule : Rule) → Makes draft line.number line.words rule next → IsIgnoredRule line rule → next.ignored ≡ draft.ignored + 1
ignored_adds draft next line rule Makes.ignored is = refl
ignored_adds draft next line rule (Makes.entry name lists reads) is = elim is [ ]
ignored_adds draft next line rule (Makes.setting name blocks what reads) (IsIgnoredRule.in_block name' ignored) =
    ap (λ (n : ℕ). draft.ignored + n) (setting_ignored reads.old_block reads.new_block line.words what reads.reads ignored)
ignored_adds draft next line rule (Makes.numbered rest lists what reads) (IsIgnoredRule.of_number name n more number foreign) =
    ap (λ (count : ℕ). draft.ignored + count) (foreign_ignored draft.lists lists name n more what reads number foreign)
ignored_adds draft next line rule (Makes.list rest name extended head) is = elim is [ ]
ignored_adds draft next line rule (Makes.interface rest interfaces name heading begins) is = elim is [ ]
ignored_adds draft next line rule (Makes.route rest route is_route number) is = elim is [ ]
ignored_adds draft next line rule (Makes.pool rest table reads) is = elim is [ ]
ignored_adds draft next line rule (Makes.source word rest table reads) is = elim is [ ]
ignored_adds draft next line rule Makes.cut is = refl

-- a line is counted once, or not at all
data CountsLine (draft next : Draft) (line : Reading) : Type 0 where
  once : Ignores draft.block line line.words → next.ignored ≡ draft.ignored + 1 → CountsLine draft next line
  never : next.ignored ≡ draft.ignored → CountsLine draft next line

made_counts : (draft next : Draft) (line : Reading) (rule : Rule) → FallsUnder draft.block line rule → Makes draft line.number line.words rule next → CountsLine draft next line
made_counts draft next line rule falls Makes.ignored = CountsLine.once (fits draft.block line Rule.ignored falls).0 refl
made_counts draft next line rule falls (Makes.entry name lists reads) = CountsLine.never refl
made_counts draft next line rule falls (Makes.setting name blocks taken.Modelled reads) = CountsLine.never (omega arith)
made_counts draft next line rule falls (Makes.setting name blocks taken.Ignored reads) =
    let fit = fits draft.block line (Rule.setting name) falls in
    CountsLine.once (Ignores.setting name fit.0 fit.1 reads.reads.0) refl
made_counts draft next line rule falls (Makes.numbered rest lists what (ReadsNumbered.modelled name extended words whole numbered begins into)) = CountsLine.never (omega arith)
made_counts draft next line rule falls (Makes.numbered rest lists what (ReadsNumbered.foreign name n more whole number foreign same)) =
    let fit = fits draft.block line (Rule.command commands.NumberedList rest) falls in
    CountsLine.once (Ignores.foreign name n more fit.0 (fit.1 ∙ ap (λ (all : Words). codes "access-list" ∷ all) whole) number foreign) refl
made_counts draft next line rule falls (Makes.list rest name extended head) = CountsLine.never refl
made_counts draft next line rule falls (Makes.interface rest interfaces name heading begins) = CountsLine.never refl
made_counts draft next line rule falls (Makes.route rest route is number) = CountsLine.never refl
made_counts draft next line rule falls (Makes.pool rest table reads) = CountsLine.never refl
made_counts draft next line rule falls (Makes.source word rest table reads) = CountsLine.never refl
made_counts draft next line rule falls Makes.cut =
    let fit = fits draft.block line (Rule.command commands.Source []) falls in
    CountsLine.once (Ignores.cut fit.0 fit.1) refl

record CountsAll (draft end : Draft) (lines : List Reading) : Type 0 where
  ignored : List Words
  said : AllSaid Ignores draft.block lines ignored
  number : end.ignored ≡ draft.ignored + length ignored

counts_more : (draft next end : Draft) (line : Reading) (lines : List Reading) → Takes draft line next → CountsAll next end lines → CountsLine draft next line → CountsAll draft end (line ∷ lines)
counts_more draft next end line lines takes more (CountsLine.once ignores adds) = record {
  ignored = line.words ∷ more.ignored;
  said = AllSaid.said draft.block next.block line lines line.words more.ignored ignores (open_behind draft next line takes) more.said;
  number = omega (arith, more.number, adds);
}
counts_more draft next end line lines takes more (CountsLine.never same) =
    let unsaid : (words : Words) → Ignores draft.block line words → ⊥ =
    λ words ignores.
    let adds : next.ignored ≡ draft.ignored + 1 = ignored_adds draft next line takes.rule takes.makes (ignored_rule draft.block line words takes.rule takes.falls ignores) in
    absurd (omega (arith, adds, same)) in
    record {
      ignored = more.ignored;
      said = AllSaid.other draft.block next.block line lines more.ignored unsaid (open_behind draft next line takes) more.said;
      number = omega (arith, more.number, same);
    }

counted : {draft end : Draft} {lines : List Reading} → TakesAll draft lines end → CountsAll draft end lines
counted (TakesAll.end draft) = record { ignored = []; said = AllSaid.end draft.block; number = omega arith }
counted (TakesAll.next draft next end line lines takes rest) =
    counts_more draft next end line lines takes (counted rest) (made_counts draft next line takes.rule takes.falls takes.makes)

from_none : (known : List (List ℕ)) (end : Draft) (lines : List Reading) (n : ℕ) → CountsAll (no_lines known) end lines → n ≡ end.ignored → Counts lines n
from_none known end lines n all is = record { ignored = all.ignored; said = all.said; number = omega (arith, is, all.number) }

pub ignored_are_counted : (known : List (List ℕ)) (bytes : List ℕ) (router : Router) (readings : List Reading) → Reads known bytes router → AreLines 1 (raw_lines bytes) readings
    → Counts readings router.ignored
ignored_are_counted known bytes router readings reads are =
    let taken : TakesAll (no_lines known) readings reads.draft = rw (lines_are_one reads.taken.are_lines are) at reads.taken.taken in
    from_none known reads.draft readings router.ignored (counted taken) (ap (λ (r : Router). r.ignored) reads.is)

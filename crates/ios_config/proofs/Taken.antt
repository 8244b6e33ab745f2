-- Drafts that take a line, by what the crates below say of it.
use Rattle.std.proofs.Common.{◌≡◌, ◌==◌, ℕ, ◌<◌, true, false, List, [], ◌∷◌, ◌++◌, Option, Some, None, option_map, length, slice_get, refl, ap, arith}
use Rattle.std.proofs.lemmas.Bool.Decides.{nat_tests}
use Rattle.std.proofs.lemmas.List.{nil_from_length}
use Rattle.std.proofs.lemmas.Option.{slice_get-get_or, slice_get_within}
use Rattle.ios_lex.specs.Lines.{Reading}
use Rattle.ios_lex.specs.Openings.{joined}
use Rattle.ios_lex.specs.Phrases.{Words}
use Rattle.ios_lex.specs.declared.fault.LineFault.{LineFault}
use Rattle.ios_lex.specs.declared.fault.LineFault.TheVariants as line_fault
use Rattle.ios_lex.specs.declared.reason.IosReason.{IosReason}
use Rattle.ios_lex.specs.declared.reason.IosReason.TheVariants as ios
use Rattle.ios_lex.specs.declared.taken.Taken.{Taken}
use Rattle.ios_acl.specs.Block.{IsWithinBlock}
use Rattle.ios_acl.specs.List.{AccessList}
use Rattle.ios_acl.specs.declared.fault.AclFault.{AclFault}
use Rattle.ios_acl.specs.declared.fault.AclFault.TheVariants as acl
use Rattle.ios_lists.specs.Entries.{FailsAt, ReadsEntryAt}
use Rattle.ios_lists.specs.Faults.{IsAclFault}
use Rattle.ios_lists.specs.Heads.{IsBlockRefused, OpensBlock}
use Rattle.ios_lists.specs.Lists.{name_at}
use Rattle.ios_lists.specs.Numbered.{IsNumberedRefused, ReadsNumbered}
use Rattle.ios_interface.specs.Block.{Block, no_lines}
use Rattle.ios_interface.specs.Faults.{IsFault}
use Rattle.ios_interface.specs.Interfaces.{Interfaces, IsHeadingFault, Opens, ReadsLineAt}
use Rattle.ios_nat.specs.Reading.{Reads}
use Rattle.ios_nat.specs.Table.{Table}
use Rattle.ios_route.specs.RouteLines.{IsRoute}
use Rattle.ios_route.specs.RouteRefusals.{IsFault as IsRouteFault}
use Rattle.ios_route.specs.declared.static_route.StaticRoute.{StaticRoute}
use Rattle.ios_config.specs.Commands.{IsUnmodelled, opening_words}
use Rattle.ios_config.specs.Line.{FallsUnder, IsCommand, IsLineRefused, IsOfRule, Makes, Refuses, Rule, Takes, counting, ignoring, rule_within, with_numbered}
use Rattle.ios_config.specs.Router.{Draft, OpenBlock}
use Rattle.ios_config.specs.Taking.{IsLineFault, IsRuleFault, IsTranslationFault, IsWithinFault, TakesWithin, Translates, block_of, interface_in, list_in, of_list}
use Rattle.ios_config.specs.declared.command.Command.{Command}
use Rattle.ios_config.specs.declared.command.Command.TheVariants as commands
use Rattle.ios_config.specs.declared.draft.OpenBlock.{OpenBlock as Place}
use Rattle.ios_config.specs.declared.draft.OpenBlock.TheVariants as place

-- the block at a place

list_at : (found : Option AccessList) (name : List ℕ) → option_map (λ (list : AccessList). list.name) found ≡ Some name → list_in found ≡ OpenBlock.list_block name
list_at None name is = absurd (cc is)
list_at (Some list) name is = ap OpenBlock.list_block (cc is)

interface_at : (found : Option Block) (name : List ℕ) → option_map (λ (block : Block). block.name) found ≡ Some name → interface_in found ≡ OpenBlock.interface_block name
interface_at None name is = absurd (cc is)
interface_at (Some block) name is = ap OpenBlock.interface_block (cc is)

-- a draft as it is held
abbrev pub held : List AccessList → Interfaces → List StaticRoute → Table → Place → ℕ → Draft
held lists all routes nat at ignored =
    record { lists = lists; interfaces = all; routes = routes; nat = nat; block = block_of lists all.blocks at; ignored = ignored }

-- the place of a list that is there
pub list_within : (lists : List AccessList) (at : ℕ) (name : List ℕ) → name_at lists at ≡ Some name → at < length lists
list_within lists at name named = by_list (slice_get lists at) refl
  where
    by_list : (found : Option AccessList) → slice_get lists at ≡ found → at < length lists
    by_list None none = absurd (cc (rw none at named))
    by_list (Some list) some = slice_get_within lists at list some

-- headings

pub opened_list : (lists new : List AccessList) (all : Interfaces) (routes : List StaticRoute) (nat : Table) (old : Place) (ignored : ℕ) (rest : Words) (at : ℕ)
    → OpensBlock lists rest new at → (number : ℕ) (words : Words)
    → Makes (held lists all routes nat old ignored) number words (Rule.command commands.ListBlock rest) (held new all routes nat (place.List at) ignored)
opened_list lists new all routes nat old ignored rest at opens number words =
    let block : list_in (slice_get new at) ≡ OpenBlock.list_block opens.name = list_at (slice_get new at) opens.name opens.at in
    rw (block, opens.put) (Makes.list rest opens.name opens.extended opens.head)

pub opened_interface : (lists : List AccessList) (all new : Interfaces) (routes : List StaticRoute) (nat : Table) (old : Place) (ignored : ℕ) (rest : Words) (at : ℕ)
    → Opens all rest new at → (number : ℕ) (words : Words)
    → Makes (held lists all routes nat old ignored) number words (Rule.command commands.InterfaceBlock rest) (held lists new routes nat (place.Interface at) ignored)
opened_interface lists all new routes nat old ignored rest at opens number words =
    let block : interface_in (slice_get new.blocks at) ≡ OpenBlock.interface_block opens.name = interface_at (slice_get new.blocks at) opens.name opens.there in
    rw block (Makes.interface rest new opens.name opens.heading opens.begins)

pub list_fault : (draft : Draft) (rest words : Words) (fault : AclFault) → IsAclFault (IsBlockRefused draft.lists rest) fault
    → IsRuleFault (Rule.command commands.ListBlock rest) draft words (of_list fault)
list_fault draft rest words (acl.Refused why) refused = Refuses.list rest why refused
list_fault draft rest words acl.NoMemory refused = tt

pub interface_fault : (draft : Draft) (rest words : Words) (fault : LineFault) → IsHeadingFault draft.interfaces rest fault
    → IsRuleFault (Rule.command commands.InterfaceBlock rest) draft words fault
interface_fault draft rest words (line_fault.Refused why) refused = Refuses.interface rest why refused
interface_fault draft rest words line_fault.NoMemory refused = tt

-- numbered lines

pub numbered : (draft : Draft) (rest : Words) (lists : List AccessList) (taken : Taken) → ReadsNumbered draft.lists rest lists taken → (number : ℕ) (words : Words)
    → Makes draft number words (Rule.command commands.NumberedList rest) (counting (with_numbered draft lists) taken)
numbered draft rest lists taken reads number words = Makes.numbered rest lists taken reads

pub numbered_fault : (draft : Draft) (rest words : Words) (fault : AclFault) → IsAclFault (IsNumberedRefused draft.lists rest) fault
    → IsRuleFault (Rule.command commands.NumberedList rest) draft words (of_list fault)
numbered_fault draft rest words (acl.Refused why) refused = Refuses.numbered rest why refused
numbered_fault draft rest words acl.NoMemory refused = tt

-- routes and translation

pub routed : (lists : List AccessList) (all : Interfaces) (routes : List StaticRoute) (nat : Table) (old : Place) (ignored : ℕ) (rest : Words) (route : StaticRoute) (number : ℕ)
    → IsRoute false route rest → route.line ≡ number → (words : Words)
    → Makes (held lists all routes nat old ignored) number words (Rule.command commands.Route rest) (held lists all (routes ++ route ∷ []) nat place.Nothing ignored)
routed lists all routes nat old ignored rest route number is line words = Makes.route rest route is line

pub route_fault : (draft : Draft) (rest words : Words) (fault : LineFault) → IsRouteFault rest fault → IsRuleFault (Rule.command commands.Route rest) draft words fault
route_fault draft rest words (line_fault.Refused why) refused = Refuses.route rest why refused
route_fault draft rest words line_fault.NoMemory refused = tt

pub translated : (lists : List AccessList) (all : Interfaces) (routes : List StaticRoute) (nat new : Table) (old : Place) (ignored number : ℕ) (words : Words) → Reads nat number words new
    → Translates (held lists all routes nat old ignored) number words (held lists all routes new place.Nothing ignored)
translated lists all routes nat new old ignored number words reads = record { table = new; reads = reads; made = refl }

pub pooled : (draft new : Draft) (number : ℕ) (words rest : Words) → Translates draft number words new → Makes draft number words (Rule.command commands.Pool rest) new
pooled draft new number words rest made = rw made.made (Makes.pool rest made.table made.reads)

pub pool_fault : (draft : Draft) (words rest : Words) (fault : LineFault) → IsTranslationFault draft words fault → IsRuleFault (Rule.command commands.Pool rest) draft words fault
pool_fault draft words rest (line_fault.Refused why) refused = Refuses.pool rest why refused
pool_fault draft words rest line_fault.NoMemory refused = tt

pub sourced : (draft new : Draft) (number : ℕ) (words rest : Words) → (rest ≡ [] → ⊥) → Translates draft number words new → Makes draft number words (Rule.command commands.Source rest) new
sourced draft new number words [] some made = absurd (some refl)
sourced draft new number words (word ∷ rest) some made = rw made.made (Makes.source word rest made.table made.reads)

pub source_fault : (draft : Draft) (words rest : Words) (fault : LineFault) → (rest ≡ [] → ⊥) → IsTranslationFault draft words fault → IsRuleFault (Rule.command commands.Source rest) draft words fault
source_fault draft words [] fault some refused = absurd (some refl)
source_fault draft words (word ∷ rest) (line_fault.Refused why) some refused = Refuses.source word rest why refused
source_fault draft words (word ∷ rest) line_fault.NoMemory some refused = tt

pub none_left : (words : Words) → (length words == 0) ≡ true → words ≡ []
none_left words none = nil_from_length words (grind (arith, nat_tests))

pub cut_short : (draft : Draft) (number : ℕ) (words rest : Words) → rest ≡ [] → Makes draft number words (Rule.command commands.Source rest) (ignoring draft)
cut_short draft number words rest none = rw none Makes.cut

-- lines of the block that is open

within : (draft new : Draft) (line : Reading) (rule : Rule) → IsWithinBlock line → rule_within draft.block ≡ rule → Makes draft line.number line.words rule new → Takes draft line new
within draft new line rule is falls makes =
    let own : FallsUnder draft.block line (rule_within draft.block) = FallsUnder.within is in
    record { rule = rule; falls = rw falls at own; makes = makes }

refused_within : (draft : Draft) (line : Reading) (rule : Rule) (fault : LineFault) → IsWithinBlock line → rule_within draft.block ≡ rule → IsRuleFault rule draft line.words fault
    → IsLineFault draft line fault
refused_within draft line rule (line_fault.Refused why) is falls refuses =
    let own : FallsUnder draft.block line (rule_within draft.block) = FallsUnder.within is in
    record { rule = rule; falls = rw falls at own; refuses = refuses }
refused_within draft line rule line_fault.NoMemory is falls refuses = tt

pub stray : (lists : List AccessList) (all : Interfaces) (routes : List StaticRoute) (nat : Table) (ignored : ℕ) (words : Words)
    → TakesWithin (held lists all routes nat place.Nothing ignored) words (ignoring (held lists all routes nat place.Nothing ignored))
stray lists all routes nat ignored words line is same = within _ _ line Rule.ignored is refl Makes.ignored

pub entry_taken : (lists new : List AccessList) (all : Interfaces) (routes : List StaticRoute) (nat : Table) (at ignored : ℕ) (words : Words) → ReadsEntryAt lists at words new
    → TakesWithin (held lists all routes nat (place.List at) ignored) words (held new all routes nat (place.List at) ignored)
entry_taken lists new all routes nat at ignored words reads line is same =
    let old_block : list_in (slice_get lists at) ≡ OpenBlock.list_block reads.name = list_at (slice_get lists at) reads.name reads.at in
    let new_block : list_in (slice_get new at) ≡ OpenBlock.list_block reads.name = list_at (slice_get new at) reads.name reads.stays in
    rw new_block
    (within (held lists all routes nat (place.List at) ignored) _ line (Rule.entry reads.name) is (ap rule_within old_block)
    (rw old_block (rw same (Makes.entry reads.name new reads.reads))))

entry_fault_by : (draft : Draft) (at : ℕ) (line : Reading) (fault : AclFault) → ((name : List ℕ) → name_at draft.lists at ≡ Some name → rule_within draft.block ≡ Rule.entry name)
    → IsWithinBlock line → FailsAt draft.lists at line.words fault → IsLineFault draft line (of_list fault)
entry_fault_by draft at line (acl.Refused why) block is refused =
    refused_within draft line (Rule.entry refused.name) (line_fault.Refused why) is (block refused.name refused.at) (Refuses.entry refused.name why refused.refused)
entry_fault_by draft at line acl.NoMemory block is refused = tt

pub entry_fault : (lists : List AccessList) (all : Interfaces) (routes : List StaticRoute) (nat : Table) (at ignored : ℕ) (words : Words) (fault : AclFault) → FailsAt lists at words fault
    → IsWithinFault (held lists all routes nat (place.List at) ignored) words (of_list fault)
entry_fault lists all routes nat at ignored words fault refused line is same =
    entry_fault_by (held lists all routes nat (place.List at) ignored) at line fault (λ name named. ap rule_within (list_at (slice_get lists at) name named)) is (rw same refused)

pub setting_taken : (lists : List AccessList) (all new : Interfaces) (routes : List StaticRoute) (nat : Table) (at ignored : ℕ) (words : Words) (taken : Taken) → ReadsLineAt all at words new taken
    → TakesWithin (held lists all routes nat (place.Interface at) ignored) words (counting (held lists new routes nat (place.Interface at) ignored) taken)
setting_taken lists all new routes nat at ignored words taken reads line is same =
    let old_block : interface_in (slice_get all.blocks at) ≡ OpenBlock.interface_block reads.name = interface_at (slice_get all.blocks at) reads.name reads.there in
    let new_block : interface_in (slice_get new.blocks at) ≡ OpenBlock.interface_block reads.name = interface_at (slice_get new.blocks at) reads.name reads.stays in
    rw (new_block, reads.known)
    (within (held lists all routes nat (place.Interface at) ignored) _ line (Rule.setting reads.name) is (ap rule_within old_block)
    (rw old_block (rw same (Makes.setting reads.name new.blocks taken reads.line))))

setting_fault_by : (draft : Draft) (name : List ℕ) (line : Reading) (fault : LineFault) → rule_within draft.block ≡ Rule.setting name → IsWithinBlock line → IsFault line.words fault
    → IsLineFault draft line fault
setting_fault_by draft name line (line_fault.Refused why) block is refused = refused_within draft line (Rule.setting name) (line_fault.Refused why) is block (Refuses.setting name why refused)
setting_fault_by draft name line line_fault.NoMemory block is refused = tt

pub setting_fault : (lists : List AccessList) (all : Interfaces) (routes : List StaticRoute) (nat : Table) (at ignored : ℕ) (words : Words) (fault : LineFault) → at < length all.blocks
    → IsFault words fault → IsWithinFault (held lists all routes nat (place.Interface at) ignored) words fault
setting_fault lists all routes nat at ignored words fault inside refused line is same = by_block (slice_get all.blocks at) refl
  where
    by_block : (found : Option Block) → slice_get all.blocks at ≡ found → IsLineFault (held lists all routes nat (place.Interface at) ignored) line fault
    by_block None none = absurd (cc (slice_get-get_or all.blocks at (no_lines [] 0) inside, none))
    by_block (Some block) some =
        setting_fault_by (held lists all routes nat (place.Interface at) ignored) block.name line fault
        (ap rule_within (interface_at (slice_get all.blocks at) block.name (ap (option_map (λ (b : Block). b.name)) some))) is (rw same refused)

-- lines outside blocks

pub commanded : (draft new : Draft) (line : Reading) (rule : Rule) → IsCommand line → IsOfRule line.words rule → Makes draft line.number line.words rule new → Takes draft line new
commanded draft new line rule outside of makes = record { rule = rule; falls = FallsUnder.outside rule outside of; makes = makes }

pub commanded_fault : (draft : Draft) (line : Reading) (rule : Rule) (fault : LineFault) → IsCommand line → IsOfRule line.words rule → IsRuleFault rule draft line.words fault → IsLineFault draft line fault
commanded_fault draft line rule (line_fault.Refused why) outside of refuses = record { rule = rule; falls = FallsUnder.outside rule outside of; refuses = refuses }
commanded_fault draft line rule line_fault.NoMemory outside of refuses = tt

pub bannered : (draft : Draft) (line : Reading) → line.banner ≡ true → Takes draft line (ignoring draft)
bannered draft line is = record { rule = Rule.ignored; falls = FallsUnder.banner is; makes = Makes.ignored }

pub passed_over : (draft : Draft) (line : Reading) → IsCommand line → ((command : Command) (rest : Words) → line.words ≡ opening_words command ++ rest → ⊥)
    → ((opening : Words) → IsUnmodelled line.words opening → ⊥) → Takes draft line (ignoring draft)
passed_over draft line outside none harmless = commanded draft (ignoring draft) line Rule.ignored outside (IsOfRule.other none harmless) Makes.ignored

pub unmodelled_refused : (draft : Draft) (line : Reading) (opening : Words) (why : IosReason) → IsCommand line → IsUnmodelled line.words opening → why ≡ ios.Unmodelled (joined opening)
    → IsLineRefused draft line why
unmodelled_refused draft line opening why outside is same =
    rw same (record { rule = Rule.unmodelled opening; falls = FallsUnder.outside (Rule.unmodelled opening) outside (IsOfRule.unmodelled opening is); refuses = Refuses.unmodelled opening })

-- Each interface is what the lines below its headings make of it.
use Rattle.std.proofs.Common.{◌≡◌, ℕ, Bool, true, false, List, [], ◌∷◌, ◌++◌, Option, Some, None, Contains, map, option_map, slice_get, unwrap_or, refl, sym, ap, ◌∙◌}
use Rattle.std.specs.List.{IsDistinct}
use Rattle.std.specs.Str.{bytes_eq}
use Rattle.std.proofs.lemmas.Cmp.{nat_list_eq_equiv}
use Rattle.std.proofs.lemmas.Map.Keys.{IsDistinct-push}
use Rattle.std.proofs.lemmas.Option.{slice_get-get_or, slice_get-map}
use Rattle.std.proofs.lemmas.Slice.Eq.{bytes_eq-Decides}
use Rattle.ios_lex.specs.Lines.{AreLines, Reading}
use Rattle.ios_lex.specs.Phrases.{Words}
use Rattle.ios_lex.specs.RawLines.{raw_lines}
use Rattle.ios_lex.specs.declared.taken.Taken.{Taken}
use Rattle.ios_lex.proofs.OneReading.{lines_are_one}
use Rattle.ios_interface.specs.Block.{Block, interface_of}
use Rattle.ios_interface.specs.Block as block
use Rattle.ios_interface.specs.Interfaces.{Begins, Interfaces, ReadsLine, block_named, block_names, number_of}
use Rattle.ios_interface.specs.Reading.{Reads as ReadsSetting}
use Rattle.ios_interface.proofs.InterfaceLines.{read_same}
use Rattle.ios_interface.proofs.NamedBlocks.{block_at, no_name}
use Rattle.ios_route.specs.Interfaces.{Interface}
use Rattle.ios_config.specs.Line.{FallsUnder, Makes, Rule, Takes, rule_within}
use Rattle.ios_config.specs.OwnLines.{AllSaid, IsOfItsSettings, ReadsSettings, SaysSetting}
use Rattle.ios_config.specs.Reading.{Reads, TakesAll}
use Rattle.ios_config.specs.Router.{Draft, OpenBlock, Router, no_lines}
use Rattle.ios_config.specs.declared.command.Command.TheVariants as commands
use Rattle.ios_config.proofs.LineRules.{fits, open_behind}
use Rattle.ios_config.proofs.NamedLists.{apart_names}
use Rattle.ios_config.proofs.OneRule.{one_rule}
use Rattle.ios_config.proofs.OpenBlocks.{block_push, block_with, found_name, names_push, names_with, others_push, others_with}

-- the rule of a line that says something of the interface of this name
data IsOwnRule (name : List ℕ) (line : Reading) (words : Words) : Rule → Type 0 where
  by_name : words ≡ line.words → IsOwnRule name line words (Rule.setting name)

own_rule : (name : List ℕ) (block : OpenBlock) (line : Reading) (words : Words) (rule : Rule) → FallsUnder block line rule → SaysSetting name block line words → IsOwnRule name line words rule
own_rule name block line words rule falls (SaysSetting.within within is) =
    let own : FallsUnder block line (rule_within block) = FallsUnder.within within in
    let setting : FallsUnder block line (Rule.setting name) = rw (ap rule_within is) at own in
    rw (one_rule block line rule (Rule.setting name) falls setting) (IsOwnRule.by_name refl)

own_setting : (name other : List ℕ) (line : Reading) (words : Words) → IsOwnRule name line words (Rule.setting other) → name ≡ other
own_setting name other line words (IsOwnRule.by_name is) = refl

-- the block of a name, or one without any lines
abbrev begun : List Block → List ℕ → ℕ → Block
begun blocks name number = unwrap_or (block_named blocks name) (block.no_lines name number)

-- the block of a name has its number, where there is one
abbrev Agrees : List Block → List ℕ → ℕ → Type 0
Agrees blocks name number = (block : Block) → block_named blocks name ≡ Some block → block.number ≡ number

-- what a line does to the interface of a name
data Does (name : List ℕ) (number : ℕ) (draft next : Draft) (line : Reading) : Type 0 where
  adds : (words : Words) (what : Taken) → SaysSetting name draft.block line words
      → ReadsSetting (begun draft.interfaces.blocks name number) words (begun next.interfaces.blocks name number) what → Does name number draft next line
  leaves : ((words : Words) → SaysSetting name draft.block line words → ⊥) → begun next.interfaces.blocks name number ≡ begun draft.interfaces.blocks name number
      → Does name number draft next line

abbrev or_new : List ℕ → ℕ → Option Block → Block
or_new name number found = unwrap_or found (block.no_lines name number)

-- the block of the name of a line
record IsRead (old new : List Block) (name : List ℕ) (words : Words) (what : Taken) : Type 0 where
  old_block : Block
  new_block : Block
  there : block_named old name ≡ Some old_block
  now : block_named new name ≡ Some new_block
  number : new_block.number ≡ old_block.number
  reads : ReadsSetting old_block words new_block what

kept_name : (old : List Block) (name : List ℕ) (words : Words) (new : List Block) (what : Taken) (reads : ReadsLine old name words new what) → reads.new_block.name ≡ name
kept_name old name words new what reads = (read_same reads.old_block reads.new_block words what reads.reads).name ∙ found_name old name reads.old_block reads.there

is_read : (old : List Block) (name : List ℕ) (words : Words) (new : List Block) (what : Taken) → ReadsLine old name words new what → IsRead old new name words what
is_read old name words new what reads = record {
  old_block = reads.old_block;
  new_block = reads.new_block;
  there = reads.there;
  now = rw (reads.put, ← kept_name old name words new what reads) (block_with old reads.new_block);
  number = (read_same reads.old_block reads.new_block words what reads.reads).number;
  reads = reads.reads;
}

others_stay : (old : List Block) (name other : List ℕ) (words : Words) (new : List Block) (what : Taken) → ReadsLine old other words new what → bytes_eq name other ≡ false
    → block_named new name ≡ block_named old name
others_stay old name other words new what reads apart =
    rw reads.put (others_with old reads.new_block name (rw (kept_name old other words new what reads) apart))

setting_does : (name : List ℕ) (number : ℕ) (draft next : Draft) (line : Reading) (other : List ℕ) (what : Taken)
    → ReadsLine draft.interfaces.blocks other line.words next.interfaces.blocks what → FallsUnder draft.block line (Rule.setting other) → Does name number draft next line
setting_does name number draft next line other what reads falls = decide (bytes_eq name other) refl
  where
    decide : (b : Bool) → b ≡ bytes_eq name other → Does name number draft next line
    decide true is =
        let same : name ≡ other = (bytes_eq-Decides name other).0 (sym is) in
        let fit = fits draft.block line (Rule.setting other) falls in
        let read : IsRead draft.interfaces.blocks next.interfaces.blocks name line.words what =
        rw same (is_read draft.interfaces.blocks other line.words next.interfaces.blocks what reads) in
        Does.adds line.words what (SaysSetting.within fit.0 (rw same fit.1)) (rw (read.there, read.now) read.reads)
    decide false is =
        Does.leaves (λ words says. apart_names name other (sym is) (own_setting name other line words (own_rule name draft.block line words (Rule.setting other) falls says)))
        (ap (or_new name number) (others_stay draft.interfaces.blocks name other line.words next.interfaces.blocks what reads (sym is)))

-- a heading leaves each interface as it was, or without any lines
begins_leaves : (old new : Interfaces) (name other : List ℕ) (number : ℕ) → Begins old other new → Agrees new.blocks name number → begun new.blocks name number ≡ begun old.blocks name number
begins_leaves old new name other number (Begins.there block found is) agrees = ap (λ (all : Interfaces). begun all.blocks name number) is
begins_leaves old new name other number (Begins.new absent few is) agrees = decide (bytes_eq name other) refl
  where
    made : Block
    made = block.no_lines other (number_of old.known old.blocks other)

    blocks_are : new.blocks ≡ old.blocks ++ made ∷ []
    blocks_are = ap (λ (all : Interfaces). all.blocks) is

    decide : (b : Bool) → b ≡ bytes_eq name other → begun new.blocks name number ≡ begun old.blocks name number
    decide true test =
        let same : other ≡ name = sym ((bytes_eq-Decides name other).0 (sym test)) in
        let now : block_named new.blocks name ≡ Some made = rw blocks_are (block_push old.blocks made name same (rw same at absent)) in
        let numbered : made.number ≡ number = agrees made now in
        let before : block_named old.blocks name ≡ None = rw same at absent in
        ap (or_new name number) now ∙ cc (same, numbered) ∙ sym (ap (or_new name number) before)
    decide false test = ap (or_new name number) (ap (λ (all : List Block). block_named all name) blocks_are ∙ others_push old.blocks made name (sym test))

made_does : (name : List ℕ) (number : ℕ) (draft next : Draft) (line : Reading) (rule : Rule) → FallsUnder draft.block line rule → Makes draft line.number line.words rule next
    → Agrees next.interfaces.blocks name number → Does name number draft next line
made_does name number draft next line rule falls Makes.ignored agrees = Does.leaves (λ words says. elim (own_rule name draft.block line words Rule.ignored falls says) [ ]) refl
made_does name number draft next line rule falls (Makes.entry other lists reads) agrees =
    Does.leaves (λ words says. elim (own_rule name draft.block line words (Rule.entry other) falls says) [ ]) refl
made_does name number draft next line rule falls (Makes.setting other blocks what reads) agrees = setting_does name number draft next line other what reads falls
made_does name number draft next line rule falls (Makes.numbered rest lists what reads) agrees =
    Does.leaves (λ words says. elim (own_rule name draft.block line words (Rule.command commands.NumberedList rest) falls says) [ ]) refl
made_does name number draft next line rule falls (Makes.list rest other asked head) agrees =
    Does.leaves (λ words says. elim (own_rule name draft.block line words (Rule.command commands.ListBlock rest) falls says) [ ]) refl
made_does name number draft next line rule falls (Makes.interface rest interfaces other heading begins) agrees =
    Does.leaves (λ words says. elim (own_rule name draft.block line words (Rule.command commands.InterfaceBlock rest) falls says) [ ])
    (begins_leaves draft.interfaces interfaces name other number begins agrees)
made_does name number draft next line rule falls (Makes.route rest route is at) agrees =
    Does.leaves (λ words says. elim (own_rule name draft.block line words (Rule.command commands.Route rest) falls says) [ ]) refl
made_does name number draft next line rule falls (Makes.pool rest table reads) agrees =
    Does.leaves (λ words says. elim (own_rule name draft.block line words (Rule.command commands.Pool rest) falls says) [ ]) refl
made_does name number draft next line rule falls (Makes.source word rest table reads) agrees =
    Does.leaves (λ words says. elim (own_rule name draft.block line words (Rule.command commands.Source (word ∷ rest)) falls says) [ ]) refl
made_does name number draft next line rule falls Makes.cut agrees =
    Does.leaves (λ words says. elim (own_rule name draft.block line words (Rule.command commands.Source []) falls says) [ ]) refl

-- an interface keeps its number
record Keeps (blocks : List Block) (name : List ℕ) (number : ℕ) : Type 0 where
  block : Block
  there : block_named blocks name ≡ Some block
  number_is : block.number ≡ number

setting_keeps : (old new : List Block) (name other : List ℕ) (words : Words) (what : Taken) (block : Block) → ReadsLine old other words new what → block_named old name ≡ Some block
    → Keeps new name block.number
setting_keeps old new name other words what block reads there = decide (bytes_eq name other) refl
  where
    decide : (b : Bool) → b ≡ bytes_eq name other → Keeps new name block.number
    decide true is =
        let same : name ≡ other = (bytes_eq-Decides name other).0 (sym is) in
        let read : IsRead old new name words what = rw same (is_read old other words new what reads) in
        let own : read.old_block ≡ block = cc (read.there, there) in
        record { block = read.new_block; there = read.now; number_is = read.number ∙ ap (λ (b : Block). b.number) own }
    decide false is = record { block = block; there = others_stay old name other words new what reads (sym is) ∙ there; number_is = refl }

begins_keeps : (old new : Interfaces) (name other : List ℕ) (block : Block) → Begins old other new → block_named old.blocks name ≡ Some block → Keeps new.blocks name block.number
begins_keeps old new name other block (Begins.there block' found is) there = record { block = block; there = rw is there; number_is = refl }
begins_keeps old new name other block (Begins.new absent few is) there = decide (bytes_eq name other) refl
  where
    decide : (b : Bool) → b ≡ bytes_eq name other → Keeps new.blocks name block.number
    decide true test =
        let same : name ≡ other = (bytes_eq-Decides name other).0 (sym test) in
        absurd (cc (same, there, absent))
    decide false test = record { block = block; there = rw is (others_push old.blocks _ name (sym test) ∙ there); number_is = refl }

made_keeps : (draft next : Draft) (line : Reading) (rule : Rule) (name : List ℕ) (block : Block) → Makes draft line.number line.words rule next
    → block_named draft.interfaces.blocks name ≡ Some block → Keeps next.interfaces.blocks name block.number
made_keeps draft next line rule name block Makes.ignored there = record { block = block; there = there; number_is = refl }
made_keeps draft next line rule name block (Makes.entry other lists reads) there = record { block = block; there = there; number_is = refl }
made_keeps draft next line rule name block (Makes.setting other blocks what reads) there = setting_keeps draft.interfaces.blocks blocks name other line.words what block reads there
made_keeps draft next line rule name block (Makes.numbered rest lists what reads) there = record { block = block; there = there; number_is = refl }
made_keeps draft next line rule name block (Makes.list rest other asked head) there = record { block = block; there = there; number_is = refl }
made_keeps draft next line rule name block (Makes.interface rest interfaces other heading begins) there = begins_keeps draft.interfaces interfaces name other block begins there
made_keeps draft next line rule name block (Makes.route rest route is number) there = record { block = block; there = there; number_is = refl }
made_keeps draft next line rule name block (Makes.pool rest table reads) there = record { block = block; there = there; number_is = refl }
made_keeps draft next line rule name block (Makes.source word rest table reads) there = record { block = block; there = there; number_is = refl }
made_keeps draft next line rule name block Makes.cut there = record { block = block; there = there; number_is = refl }

agrees_before : (draft next : Draft) (line : Reading) (name : List ℕ) (number : ℕ) → Takes draft line next → Agrees next.interfaces.blocks name number → Agrees draft.interfaces.blocks name number
agrees_before draft next line name number takes agrees block there =
    let kept = made_keeps draft next line takes.rule name block takes.makes there in
    sym kept.number_is ∙ agrees kept.block kept.there

-- what lines say of an interface makes it of what it was
record Owns (name : List ℕ) (number : ℕ) (draft end : Draft) (lines : List Reading) : Type 0 where
  own : List Words
  said : AllSaid (SaysSetting name) draft.block lines own
  reads : ReadsSettings (begun draft.interfaces.blocks name number) own (begun end.interfaces.blocks name number)
  agrees : Agrees draft.interfaces.blocks name number

owns_more : (name : List ℕ) (number : ℕ) (draft next end : Draft) (line : Reading) (lines : List Reading) → Takes draft line next → Owns name number next end lines
    → Does name number draft next line → Owns name number draft end (line ∷ lines)
owns_more name number draft next end line lines takes more (Does.adds words what says reads) = record {
  own = words ∷ more.own;
  said = AllSaid.said draft.block next.block line lines words more.own says (open_behind draft next line takes) more.said;
  reads = ReadsSettings.line (begun draft.interfaces.blocks name number) (begun next.interfaces.blocks name number) (begun end.interfaces.blocks name number) words more.own what reads more.reads;
  agrees = agrees_before draft next line name number takes more.agrees;
}
owns_more name number draft next end line lines takes more (Does.leaves unsaid same) = record {
  own = more.own;
  said = AllSaid.other draft.block next.block line lines more.own unsaid (open_behind draft next line takes) more.said;
  reads = rw same at more.reads;
  agrees = agrees_before draft next line name number takes more.agrees;
}

own_settings : {draft end : Draft} {lines : List Reading} (name : List ℕ) (number : ℕ) → TakesAll draft lines end → Agrees end.interfaces.blocks name number → Owns name number draft end lines
own_settings name number (TakesAll.end draft) agrees =
    record { own = []; said = AllSaid.end draft.block; reads = ReadsSettings.end (begun draft.interfaces.blocks name number); agrees = agrees }
own_settings name number (TakesAll.next draft next end line lines takes rest) agrees =
    let more = own_settings name number rest agrees in
    owns_more name number draft next end line lines takes more (made_does name number draft next line takes.rule takes.falls takes.makes more.agrees)

-- no two interfaces have one name

abbrev AreDistinct : List Block → Type 0
AreDistinct blocks = IsDistinct bytes_eq (block_names blocks)

setting_distinct : (old new : List Block) (name : List ℕ) (words : Words) (what : Taken) → ReadsLine old name words new what → AreDistinct old → AreDistinct new
setting_distinct old new name words what reads distinct =
    let there : block_named old reads.new_block.name ≡ Some reads.old_block = rw (kept_name old name words new what reads) reads.there in
    rw (reads.put, names_with old reads.new_block reads.old_block there) distinct

begins_distinct : (old new : Interfaces) (name : List ℕ) → Begins old name new → AreDistinct old.blocks → AreDistinct new.blocks
begins_distinct old new name (Begins.there block found is) distinct = rw is distinct
begins_distinct old new name (Begins.new absent few is) distinct =
    let made : Block = block.no_lines name (number_of old.known old.blocks name) in
    rw (is, names_push old.blocks made) (IsDistinct-push nat_list_eq_equiv (block_names old.blocks) name distinct (no_name old.blocks name absent))

made_distinct : (draft next : Draft) (line : Reading) (rule : Rule) → Makes draft line.number line.words rule next → AreDistinct draft.interfaces.blocks → AreDistinct next.interfaces.blocks
made_distinct draft next line rule Makes.ignored distinct = distinct
made_distinct draft next line rule (Makes.entry other lists reads) distinct = distinct
made_distinct draft next line rule (Makes.setting other blocks what reads) distinct = setting_distinct draft.interfaces.blocks blocks other line.words what reads distinct
made_distinct draft next line rule (Makes.numbered rest lists what reads) distinct = distinct
made_distinct draft next line rule (Makes.list rest other asked head) distinct = distinct
made_distinct draft next line rule (Makes.interface rest interfaces other heading begins) distinct = begins_distinct draft.interfaces interfaces other begins distinct
made_distinct draft next line rule (Makes.route rest route is number) distinct = distinct
made_distinct draft next line rule (Makes.pool rest table reads) distinct = distinct
made_distinct draft next line rule (Makes.source word rest table reads) distinct = distinct
made_distinct draft next line rule Makes.cut distinct = distinct

all_distinct : {draft end : Draft} {lines : List Reading} → TakesAll draft lines end → AreDistinct draft.interfaces.blocks → AreDistinct end.interfaces.blocks
all_distinct (TakesAll.end draft) distinct = distinct
all_distinct (TakesAll.next draft next end line lines takes rest) distinct = all_distinct rest (made_distinct draft next line takes.rule takes.makes distinct)

-- so an interface is that of the block of its name
record IsNamed (blocks : List Block) (interface : Interface) : Type 0 where
  block : Block
  named : block_named blocks block.name ≡ Some block
  is : interface ≡ interface_of block

some_block : (blocks : List Block) (place : ℕ) (interface : Interface) (found : Option Block) → AreDistinct blocks → slice_get blocks place ≡ found → option_map interface_of found ≡ Some interface
    → IsNamed blocks interface
some_block blocks place interface None distinct at is = absurd (cc is)
some_block blocks place interface (Some found) distinct at is = record { block = found; named = block_at blocks place found distinct at; is = sym (cc is) }

is_named : (blocks : List Block) (interface : Interface) → AreDistinct blocks → Contains (map interface_of blocks) interface → IsNamed blocks interface
is_named blocks interface distinct has =
    let there : slice_get (map interface_of blocks) has.0 ≡ Some interface = slice_get-get_or (map interface_of blocks) has.0 interface has.1 ∙ ap Some has.2 in
    some_block blocks has.0 interface (slice_get blocks has.0) distinct refl (sym (slice_get-map interface_of blocks has.0) ∙ there)

interface_is_own : (known : List (List ℕ)) (draft : Draft) (readings : List Reading) (block : Block) → TakesAll (no_lines known) readings draft
    → block_named draft.interfaces.blocks block.name ≡ Some block → IsOfItsSettings readings (interface_of block)
interface_is_own known draft readings block taken named =
    let owns = own_settings block.name block.number taken (λ other there. let same : other ≡ block = cc (there, named) in ap (λ (b : Block). b.number) same) in
    record { own = owns.own; said = owns.said; block = block; reads = rw named at owns.reads; is = refl }

pub interfaces_are_own : (known : List (List ℕ)) (bytes : List ℕ) (router : Router) (readings : List Reading) (interface : Interface) → Reads known bytes router
    → AreLines 1 (raw_lines bytes) readings → Contains router.interfaces interface → IsOfItsSettings readings interface
unfolding IsDistinct
interfaces_are_own known bytes router readings interface reads are has =
    let draft : Draft = reads.draft in
    let taken : TakesAll (no_lines known) readings draft = rw (lines_are_one reads.taken.are_lines are) at reads.taken.taken in
    let inside : Contains (map interface_of draft.interfaces.blocks) interface = rw reads.is at has in
    let named = is_named draft.interfaces.blocks interface (all_distinct taken tt) inside in
    rw named.is (interface_is_own known draft readings named.block taken named.named)

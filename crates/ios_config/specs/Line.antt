-- What one line makes of a router, or why it is refused.
use Rattle.std.specs.Prelude.{◌≡◌, ℕ, ◌+◌, Bool, true, false, List, [], ◌∷◌, ◌++◌}
use Rattle.ios_lex.specs.Lines.{Reading}
use Rattle.ios_lex.specs.Phrases.{Words}
use Rattle.ios_lex.specs.declared.reason.IosReason.{IosReason}
use Rattle.ios_lex.specs.declared.reason.IosReason.TheVariants as ios
use Rattle.ios_lex.specs.declared.taken.Taken.{Taken}
use Rattle.ios_lex.specs.declared.taken.Taken.TheVariants as taken
use Rattle.ios_acl.specs.Block.{IsWithinBlock}
use Rattle.ios_acl.specs.List.{AccessList}
use Rattle.ios_interface.specs.Block.{Block}
use Rattle.ios_interface.specs.Headings.{IsHeading}
use Rattle.ios_interface.specs.Interfaces.{Begins, Interfaces, IsHeadingRefused, ReadsLine}
use Rattle.ios_interface.specs.Reading as settings
use Rattle.ios_lex.specs.Openings.{joined}
use Rattle.ios_lists.specs.Entries.{IsEntryRefused, ReadsEntry}
use Rattle.ios_lists.specs.Heads.{IsBlockRefused, IsHead}
use Rattle.ios_lists.specs.Lists.{list_named, with_list}
use Rattle.ios_lists.specs.Numbered.{IsNumberedRefused, ReadsNumbered}
use Rattle.ios_nat.specs.Reading as translations
use Rattle.ios_nat.specs.Table.{Table}
use Rattle.ios_route.specs.RouteLines.{IsRoute}
use Rattle.ios_route.specs.RouteRefusals as routes
use Rattle.ios_route.specs.declared.static_route.StaticRoute.{StaticRoute}
use Rattle.ios_config.specs.Commands.{opening_words, IsUnmodelled}
use Rattle.ios_config.specs.Router.{Draft, OpenBlock}
use Rattle.ios_config.specs.declared.command.Command.{Command}
use Rattle.ios_config.specs.declared.command.Command.TheVariants as commands

-- what a line may be: one that is ignored, a line of the block of a list or of an interface of this name, a line of a modelled
-- command with these words behind its opening, or one that begins with these words and is not modelled
pub data Rule : Type 0 where
  ignored : Rule
  entry : List ℕ → Rule
  setting : List ℕ → Rule
  command : Command → Words → Rule
  unmodelled : Words → Rule

-- a line outside blocks and banners
pub record IsCommand (line : Reading) : Type 0 where
  pub unindented : line.indented ≡ false
  pub outside : line.banner ≡ false

-- what a line of a block is
abbrev pub rule_within : OpenBlock → Rule
rule_within OpenBlock.nothing = Rule.ignored
rule_within (OpenBlock.list_block name) = Rule.entry name
rule_within (OpenBlock.interface_block name) = Rule.setting name

-- what a line outside blocks is, by its words
pub data IsOfRule (words : Words) : Rule → Type 0 where
  command : (command : Command) (rest : Words) → words ≡ opening_words command ++ rest
      → IsOfRule words (Rule.command command rest)
  unmodelled : (opening : Words) → IsUnmodelled words opening
      → IsOfRule words (Rule.unmodelled opening)
  other : ((command : Command) (rest : Words) → words ≡ opening_words command ++ rest → ⊥)
      → ((opening : Words) → IsUnmodelled words opening → ⊥) → IsOfRule words Rule.ignored

-- what a line is, where this block is block. Lines of banners are ignored
pub data FallsUnder (block : OpenBlock) (line : Reading) : Rule → Type 0 where
  banner : line.banner ≡ true → FallsUnder block line Rule.ignored
  within : IsWithinBlock line → FallsUnder block line (rule_within block)
  outside : (rule : Rule) → IsCommand line → IsOfRule line.words rule → FallsUnder block line rule

abbrev pub ignored_by : Taken → ℕ
ignored_by taken.Modelled = 0
ignored_by taken.Ignored = 1

-- a line that is ignored is counted, and closes the block
abbrev pub ignoring : Draft → Draft
ignoring draft = record draft { block = OpenBlock.nothing; ignored = draft.ignored + 1 }

abbrev pub with_entry : Draft → List AccessList → Draft
with_entry draft lists = record draft { lists = lists }

-- a line that a reader of such lines ignores is counted, too
abbrev pub counting : Draft → Taken → Draft
counting draft taken = record draft { ignored = draft.ignored + ignored_by taken }

abbrev pub with_setting : Draft → List Block → Draft
with_setting draft blocks =
    record draft { interfaces = record { known = draft.interfaces.known; blocks = blocks } }

abbrev pub with_numbered : Draft → List AccessList → Draft
with_numbered draft lists = record draft { lists = lists; block = OpenBlock.nothing }

abbrev pub with_head : Draft → List AccessList → List ℕ → Draft
with_head draft lists name = record draft { lists = lists; block = OpenBlock.list_block name }

abbrev pub with_interface : Draft → Interfaces → List ℕ → Draft
with_interface draft interfaces name =
    record draft { interfaces = interfaces; block = OpenBlock.interface_block name }

abbrev pub with_route : Draft → StaticRoute → Draft
with_route draft route =
    record draft { routes = draft.routes ++ route ∷ []; block = OpenBlock.nothing }

abbrev pub with_translation : Draft → Table → Draft
with_translation draft table = record draft { nat = table; block = OpenBlock.nothing }

-- what a line of this number makes of a draft
pub data Makes (draft : Draft) (number : ℕ) (words : Words) : Rule → Draft → Type 0 where
  ignored : Makes draft number words Rule.ignored (ignoring draft)
  entry : (name : List ℕ) (lists : List AccessList) → ReadsEntry draft.lists name words lists
      → Makes draft number words (Rule.entry name) (with_entry draft lists)
  setting : (name : List ℕ) (blocks : List Block) (taken : Taken)
      → ReadsLine draft.interfaces.blocks name words blocks taken
      → Makes draft number words (Rule.setting name) (counting (with_setting draft blocks) taken)
  numbered : (rest : Words) (lists : List AccessList) (taken : Taken)
      → ReadsNumbered draft.lists rest lists taken
      → Makes draft number words (Rule.command commands.NumberedList rest)
      (counting (with_numbered draft lists) taken)
  list : (rest : Words) (name : List ℕ) (extended : Bool) → IsHead draft.lists rest name extended
      → Makes draft number words (Rule.command commands.ListBlock rest)
      (with_head draft (with_list draft.lists (list_named draft.lists name extended)) name)
  interface : (rest : Words) (interfaces : Interfaces) (name : List ℕ) → IsHeading rest name
      → Begins draft.interfaces name interfaces
      → Makes draft number words (Rule.command commands.InterfaceBlock rest)
      (with_interface draft interfaces name)
  route : (rest : Words) (route : StaticRoute) → IsRoute false route rest → route.line ≡ number
      → Makes draft number words (Rule.command commands.Route rest) (with_route draft route)
  pool : (rest : Words) (table : Table) → translations.Reads draft.nat number words table
      → Makes draft number words (Rule.command commands.Pool rest) (with_translation draft table)
  source : (word : List ℕ) (rest : Words) (table : Table)
      → translations.Reads draft.nat number words table
      → Makes draft number words (Rule.command commands.Source (word ∷ rest))
      (with_translation draft table)
  -- a line that ends behind `source`
  cut : Makes draft number words (Rule.command commands.Source []) (ignoring draft)

-- why a line is refused
pub data Refuses (draft : Draft) (words : Words) : Rule → IosReason → Type 0 where
  entry : (name : List ℕ) (why : IosReason) → IsEntryRefused draft.lists name words why
      → Refuses draft words (Rule.entry name) why
  setting : (name : List ℕ) (why : IosReason) → settings.IsRefused words why
      → Refuses draft words (Rule.setting name) why
  numbered : (rest : Words) (why : IosReason) → IsNumberedRefused draft.lists rest why
      → Refuses draft words (Rule.command commands.NumberedList rest) why
  list : (rest : Words) (why : IosReason) → IsBlockRefused draft.lists rest why
      → Refuses draft words (Rule.command commands.ListBlock rest) why
  interface : (rest : Words) (why : IosReason) → IsHeadingRefused draft.interfaces rest why
      → Refuses draft words (Rule.command commands.InterfaceBlock rest) why
  route : (rest : Words) (why : IosReason) → routes.IsRefused rest why
      → Refuses draft words (Rule.command commands.Route rest) why
  pool : (rest : Words) (why : IosReason) → translations.IsRefused draft.nat words why
      → Refuses draft words (Rule.command commands.Pool rest) why
  source : (word : List ℕ) (rest : Words) (why : IosReason)
      → translations.IsRefused draft.nat words why
      → Refuses draft words (Rule.command commands.Source (word ∷ rest)) why
  unmodelled : (opening : Words)
      → Refuses draft words (Rule.unmodelled opening) (ios.Unmodelled (joined opening))

-- the line makes the draft the new one
pub record Takes (draft : Draft) (line : Reading) (new : Draft) : Type 0 where
  pub rule : Rule
  pub falls : FallsUnder draft.block line rule
  pub makes : Makes draft line.number line.words rule new

pub record IsLineRefused (draft : Draft) (line : Reading) (why : IosReason) : Type 0 where
  pub rule : Rule
  pub falls : FallsUnder draft.block line rule
  pub refuses : Refuses draft line.words rule why

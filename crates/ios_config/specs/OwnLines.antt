-- What a configuration says of one list, or of one interface, and which lines are ignored: by its lines, in their order.
use Rattle.std.specs.Prelude.{◌≡◌, ℕ, ◌∷◌, Bool, true, List, [], ◌++◌, codes, length}
use Rattle.ios_lex.specs.ListNames.{IsListNumber, has_kind, is_foreign}
use Rattle.ios_lex.specs.Lines.{Reading}
use Rattle.ios_lex.specs.Phrases.{Words}
use Rattle.ios_lex.specs.declared.taken.Taken.{Taken}
use Rattle.ios_acl.specs.Block.{IsWithinBlock, ReadsAll, empty_list}
use Rattle.ios_acl.specs.List.{AccessList}
use Rattle.ios_interface.specs.Block.{Block, interface_of, no_lines}
use Rattle.ios_interface.specs.Reading.{IsIgnored, Reads}
use Rattle.ios_route.specs.Interfaces.{Interface}
use Rattle.ios_config.specs.Commands.{IsUnmodelled, opening_words}
use Rattle.ios_config.specs.Line.{IsCommand}
use Rattle.ios_config.specs.Router.{OpenBlock}
use Rattle.ios_config.specs.declared.command.Command.{Command}
use Rattle.ios_config.specs.declared.command.Command.TheVariants as commands

-- the words are the heading of the block of the list, or of the interface, of this name
pub data IsHeadingOf (words : Words) : OpenBlock → Type 0 where
  list : (kind name : List ℕ)
      → words ≡ codes "ip" ∷ codes "access-list" ∷ kind ∷ name ∷ []
      → IsHeadingOf words (OpenBlock.list_block name)
  interface : (name : List ℕ) (rest : Words) → words ≡ codes "interface" ∷ name ∷ rest
      → IsHeadingOf words (OpenBlock.interface_block name)

-- which block is open behind a line, where this one is open before it
pub data OpenBehind (block : OpenBlock) (line : Reading) : OpenBlock → Type 0 where
  banner : line.banner ≡ true → OpenBehind block line OpenBlock.nothing
  within : IsWithinBlock line → OpenBehind block line block
  heading : (next : OpenBlock) → IsCommand line → IsHeadingOf line.words next
      → OpenBehind block line next
  other : IsCommand line → ((next : OpenBlock) → IsHeadingOf line.words next → ⊥)
      → OpenBehind block line OpenBlock.nothing

-- what a line says of some one thing, where this block is open before it
abbrev pub Saying : Type 1
Saying = OpenBlock → Reading → Words → Type 0

-- all that lines say of it, one after another
pub data AllSaid (Says : Saying) : OpenBlock → List Reading → List Words → Type 0 where
  end : (block : OpenBlock) → AllSaid Says block [] []
  said : (block next : OpenBlock) (line : Reading) (lines : List Reading) (words : Words)
      (own : List Words) → Says block line words → OpenBehind block line next
      → AllSaid Says next lines own → AllSaid Says block (line ∷ lines) (words ∷ own)
  -- a line that says nothing of it
  other : (block next : OpenBlock) (line : Reading) (lines : List Reading) (own : List Words)
      → ((words : Words) → Says block line words → ⊥) → OpenBehind block line next
      → AllSaid Says next lines own → AllSaid Says block (line ∷ lines) own

-- the name is the number of a list that is modelled
pub record IsNumberOfKind (name : List ℕ) : Type 0 where
  pub n : ℕ
  pub number : IsListNumber name n
  pub extended : Bool
  pub kind : has_kind extended n ≡ true

-- what a line says of the list of this name: a line of its block, and what stands behind its number
pub data SaysEntry (name : List ℕ) (block : OpenBlock) (line : Reading) : Words → Type 0 where
  within : IsWithinBlock line → block ≡ OpenBlock.list_block name
      → SaysEntry name block line line.words
  numbered : (rule : Words) → IsCommand line → IsNumberOfKind name
      → line.words ≡ codes "access-list" ∷ name ∷ rule → SaysEntry name block line rule

-- the list is what its own lines make of an empty one
pub record IsOfItsLines (readings : List Reading) (list : AccessList) : Type 0 where
  pub own : List Words
  pub said : AllSaid (SaysEntry list.name) OpenBlock.nothing readings own
  pub reads : ReadsAll (empty_list list.name list.extended) own list

-- what a line says of the interface of this name: a line below one of its headings
pub data SaysSetting (name : List ℕ) (block : OpenBlock) (line : Reading) : Words → Type 0 where
  within : IsWithinBlock line → block ≡ OpenBlock.interface_block name
      → SaysSetting name block line line.words

-- the lines are read one after another
pub data ReadsSettings : Block → List Words → Block → Type 0 where
  end : (block : Block) → ReadsSettings block [] block
  line : (block next new : Block) (words : Words) (lines : List Words) (taken : Taken)
      → Reads block words next taken → ReadsSettings next lines new
      → ReadsSettings block (words ∷ lines) new

-- the interface is what its own lines make of one without any
pub record IsOfItsSettings (readings : List Reading) (interface : Interface) : Type 0 where
  pub own : List Words
  pub said : AllSaid (SaysSetting interface.name) OpenBlock.nothing readings own
  pub block : Block
  pub reads : ReadsSettings (no_lines interface.name interface.number) own block
  pub is : interface ≡ interface_of block

-- the line is ignored
pub data Ignores (block : OpenBlock) (line : Reading) : Words → Type 0 where
  -- in a banner
  banner : line.banner ≡ true → Ignores block line line.words
  -- in no block
  loose : IsWithinBlock line → block ≡ OpenBlock.nothing → Ignores block line line.words
  -- in the block of an interface
  setting : (name : List ℕ) → IsWithinBlock line → block ≡ OpenBlock.interface_block name
      → IsIgnored line.words → Ignores block line line.words
  -- of a list of another protocol
  foreign : (name : List ℕ) (n : ℕ) (rest : Words) → IsCommand line
      → line.words ≡ codes "access-list" ∷ name ∷ rest → IsListNumber name n
      → is_foreign n ≡ true → Ignores block line line.words
  -- on the translation of sources, of which it says nothing
  cut : IsCommand line → line.words ≡ opening_words commands.Source → Ignores block line line.words
  -- none of the commands that are modelled, or that change forwarding
  unknown : IsCommand line
      → ((command : Command) (rest : Words) → line.words ≡ opening_words command ++ rest → ⊥)
      → ((opening : Words) → IsUnmodelled line.words opening → ⊥) → Ignores block line line.words

-- so many of the lines are ignored
pub record Counts (readings : List Reading) (n : ℕ) : Type 0 where
  pub ignored : List Words
  pub said : AllSaid Ignores OpenBlock.nothing readings ignored
  pub number : n ≡ length ignored

-- The interfaces of a configuration while its lines are taken.
use Rattle.std.specs.Prelude.{◌≡◌, ℕ, ◌≤◌, ◌<◌, Bool, List, [], ◌∷◌, ◌++◌, Option, Some, None, find, map, option_map, slice_get}
use Rattle.std.specs.Bool.{if◌then◌else◌}
use Rattle.std.specs.List.{position_or_len}
use Rattle.std.specs.Str.{bytes_eq}
use Rattle.ios_lex.specs.declared.reason.IosReason.{IosReason}
use Rattle.ios_lex.specs.declared.reason.IosReason.TheVariants as ios
use Rattle.ios_lex.specs.Phrases.{Words}
use Rattle.ios_names.specs.Names.{most_names, with_names}
use Rattle.ios_route.specs.Interfaces.{Interface}
use Rattle.ios_lex.specs.declared.fault.LineFault.{LineFault}
use Rattle.ios_lex.specs.declared.fault.LineFault.TheVariants as fault
use Rattle.ios_lex.specs.declared.taken.Taken.{Taken}
use Rattle.ios_interface.specs.Block.{Block, no_lines}
use Rattle.ios_interface.specs.Headings.{IsHeading, IsNoHeading}
use Rattle.ios_interface.specs.Reading.{Reads}

-- the names of all interfaces before this configuration, and the blocks of its interfaces, in the order of their first
-- headings
pub record Interfaces : Type 0 where
  pub known : List (List ℕ)
  pub blocks : List Block

abbrev pub no_blocks : List (List ℕ) → Interfaces
no_blocks known = record { known = known; blocks = [] }

abbrev pub block_names : List Block → List (List ℕ)
block_names blocks = map (λ (block : Block). block.name) blocks

-- the names that were known, and those of the blocks behind them
abbrev pub names_so_far : List (List ℕ) → List Block → List (List ℕ)
names_so_far known blocks = with_names known (block_names blocks)

-- the number of an interface is the place of its name, which is behind all where it is new
abbrev pub number_of : List (List ℕ) → List Block → List ℕ → ℕ
number_of known blocks name = position_or_len (bytes_eq name) (names_so_far known blocks)

abbrev pub has_name : List ℕ → Block → Bool
has_name name block = bytes_eq name block.name

abbrev pub block_named : List Block → List ℕ → Option Block
block_named blocks name = find (has_name name) blocks

-- the blocks with this one in place of that of its name, or at the end
abbrev pub with_block : List Block → Block → List Block
with_block [] new = new ∷ []
with_block (block ∷ blocks) new =
    if has_name new.name block then new ∷ blocks else block ∷ with_block blocks new

-- the interfaces with a block of a new name, before its first line
abbrev pub with_new : Interfaces → List ℕ → Interfaces
with_new old name = record {
  known = old.known;
  blocks = old.blocks ++ no_lines name (number_of old.known old.blocks name) ∷ [];
}

-- the name of the block at this place
abbrev pub name_at : List Block → ℕ → Option (List ℕ)
name_at blocks place = option_map (λ (block : Block). block.name) (slice_get blocks place)

-- a block of this name that is there goes on, and another begins
pub data Begins (old : Interfaces) (name : List ℕ) (new : Interfaces) : Type 0 where
  there : (block : Block) → block_named old.blocks name ≡ Some block → new ≡ old
      → Begins old name new
  new : block_named old.blocks name ≡ None → number_of old.known old.blocks name < most_names
      → new ≡ with_new old name → Begins old name new

-- the words behind `interface` open the block at this place
pub record Opens (old : Interfaces) (words : Words) (new : Interfaces) (place : ℕ) : Type 0 where
  pub name : List ℕ
  pub heading : IsHeading words name
  pub begins : Begins old name new
  pub there : name_at new.blocks place ≡ Some name

-- why they are refused: they are no heading, or of one interface too many
pub data IsHeadingRefused (old : Interfaces) (words : Words) : IosReason → Type 0 where
  misread : IsNoHeading words → IsHeadingRefused old words ios.BadEntry
  too_many : (name : List ℕ) → IsHeading words name → block_named old.blocks name ≡ None
      → most_names ≤ number_of old.known old.blocks name → IsHeadingRefused old words ios.TooMany

-- memory may be wanting at any time
abbrev pub IsHeadingFault : Interfaces → Words → LineFault → Type 0
IsHeadingFault old words (fault.Refused why) = IsHeadingRefused old words why
IsHeadingFault old words fault.NoMemory = Unit {0}

-- the block of this name takes the line
pub record ReadsLine (old : List Block) (name : List ℕ) (words : Words) (new : List Block)
    (taken : Taken) : Type 0 where
  pub old_block : Block
  pub new_block : Block
  pub there : block_named old name ≡ Some old_block
  pub reads : Reads old_block words new_block taken
  pub put : new ≡ with_block old new_block

-- the block at this place takes the line, and stays at this place
pub record ReadsLineAt (old : Interfaces) (place : ℕ) (words : Words) (new : Interfaces)
    (taken : Taken) : Type 0 where
  pub name : List ℕ
  pub there : name_at old.blocks place ≡ Some name
  pub line : ReadsLine old.blocks name words new.blocks taken
  pub stays : name_at new.blocks place ≡ Some name
  pub known : new.known ≡ old.known

-- the number of a name is its place among the names
abbrev pub IsNumberOf : List (List ℕ) → ℕ → List ℕ → Type 0
IsNumberOf names number name = slice_get names number ≡ Some name

abbrev pub HasNumber : List (List ℕ) → Interface → Type 0
HasNumber names interface = IsNumberOf names interface.number interface.name

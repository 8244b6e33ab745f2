-- What the words of one more line make of a block, which lines are ignored, and why one is refused.
use Rattle.std.specs.Prelude.{◌≡◌, ℕ, Bool, true, false, List, [], ◌∷◌, ◌++◌, Some, None}
use Rattle.ios_lex.specs.declared.reason.IosReason.{IosReason}
use Rattle.ios_lex.specs.declared.reason.IosReason.TheVariants as reason
use Rattle.ios_lex.specs.Following.{Begins, Expected, StopsAt}
use Rattle.ios_lex.specs.NextWords.{NoName}
use Rattle.ios_lex.specs.Openings.{BeginsAmong, joined}
use Rattle.ios_lex.specs.Phrases.{Words}
use Rattle.ios_route.specs.declared.interface.NatMark.TheVariants as marks
use Rattle.ios_interface.specs.Block.{Block}
use Rattle.ios_lex.specs.declared.taken.Taken.{Taken}
use Rattle.ios_lex.specs.declared.taken.Taken.TheVariants as taken
use Rattle.ios_interface.specs.declared.kind.Direction.{Direction}
use Rattle.ios_interface.specs.declared.kind.Direction.TheVariants as directions
use Rattle.ios_interface.specs.declared.kind.Kind.{Kind}
use Rattle.ios_interface.specs.declared.kind.Kind.TheVariants as kinds
use Rattle.ios_interface.specs.declared.kind.Setting.{Setting}
use Rattle.ios_interface.specs.declared.kind.Setting.TheVariants as settings
use Rattle.ios_interface.specs.Grammar.{opening_words, unmodelled_openings, IsAddressLine, IsAccessGroup, Line}
use Rattle.ios_interface.specs.Refusal.{reason_at}

-- a plain address replaces the one before, and a secondary one is one more
abbrev pub with_address : Block → ℕ × ℕ → Bool → Block
with_address block address true = record block { secondary = block.secondary ++ address ∷ [] }
with_address block address false = record block { plain = Some address }

abbrev pub with_list : Block → List ℕ → Direction → Block
with_list block name directions.In = record block { list_in = Some name }
with_list block name directions.Out = record block { list_out = Some name }

abbrev pub with_setting : Block → Setting → Block
with_setting block settings.NoAddress = record block { plain = None; secondary = [] }
with_setting block settings.Inside = record block { mark = marks.Inside }
with_setting block settings.Outside = record block { mark = marks.Outside }
with_setting block settings.Shutdown = record block { shut = true }
with_setting block settings.NoShutdown = record block { shut = false }

-- what the rest of a line of a kind makes of a block
pub data Makes (block : Block) (rest : Words) (new : Block) : Kind → Type 0 where
  address : (address : ℕ × ℕ) (secondary : Bool) → IsAddressLine false address secondary rest
      → new ≡ with_address block address secondary → Makes block rest new kinds.Address
  group : (name : List ℕ) (direction : Direction) → IsAccessGroup false name direction rest
      → new ≡ with_list block name direction → Makes block rest new kinds.AccessGroup
  setting : (setting : Setting) → rest ≡ [] → new ≡ with_setting block setting
      → Makes block rest new (kinds.Setting setting)

-- the line makes the block the new one
pub record Takes (block : Block) (words : Words) (new : Block) : Type 0 where
  pub kind : Kind
  pub rest : Words
  pub opened : words ≡ opening_words kind ++ rest
  pub makes : Makes block rest new kind

-- the line begins with these words, and is not modelled
abbrev pub IsUnmodelled : Words → Words → Type 0
IsUnmodelled = BeginsAmong unmodelled_openings

-- the line begins as none that is modelled, and as none that changes forwarding
pub record IsIgnored (words : Words) : Type 0 where
  pub unopened : (kind : Kind) (rest : Words) → words ≡ opening_words kind ++ rest → ⊥
  pub harmless : (opening : Words) → IsUnmodelled words opening → ⊥

-- what becomes of a block with a line that is not refused
abbrev pub Reads : Block → Words → Block → Taken → Type 0
Reads block words new taken.Modelled = Takes block words new
Reads block words new taken.Ignored = IsIgnored words × (new ≡ block)

-- why the rest of a line of a kind is refused
pub data Fails (kind : Kind) (rest : Words) : IosReason → Type 0 where
  -- it goes wrong at a word
  stop : (front more : Words) (word : List ℕ) (expected : Expected) (over : Bool)
      → rest ≡ front ++ word ∷ more → StopsAt NoName (Line kind) front word expected over
      → Fails kind rest (reason_at kind expected over word)
  -- it ends too early
  short : Begins (Line kind false) rest → (Line kind false rest → ⊥)
      → Fails kind rest reason.BadEntry

-- why a line is refused
pub data IsRefused (words : Words) : IosReason → Type 0 where
  unmodelled : (opening : Words) → IsUnmodelled words opening
      → IsRefused words (reason.Unmodelled (joined opening))
  rest : (kind : Kind) (rest : Words) (why : IosReason)
      → ((opening : Words) → IsUnmodelled words opening → ⊥)
      → words ≡ opening_words kind ++ rest → Fails kind rest why → IsRefused words why

-- The words that are left of a text.
use Rattle.std.specs.Prelude.{◌≡◌, ℕ, List, [], ◌∷◌}
use Rattle.dimacs.specs.declared.fault.DimacsFault.{DimacsFault}
use Rattle.dimacs.specs.declared.fault.DimacsFault.TheVariants as fault
use Rattle.dimacs.specs.declared.fault.DimacsReason.{DimacsReason}
use Rattle.dimacs.specs.declared.fault.DimacsReason.TheVariants as reason
use Rattle.dimacs.specs.Words.{Placed}

-- the words, and the number behind the last line
pub record Cursor : Type 0 where
  pub words : List Placed
  pub end : ℕ

-- the next word is such a one, and these are left behind it
pub record Takes (Is : List ℕ → Type 0) (before now : Cursor) : Type 0 where
  pub word : Placed
  pub first : before.words ≡ word ∷ now.words
  pub is : Is word.text
  pub same_end : now.end ≡ before.end

-- the next word is none, or there is none
pub data Misses (Is : List ℕ → Type 0) (before : Cursor) (line : ℕ) (why : DimacsReason) : Type 0 where
  wrong : (word : Placed) (after : List Placed) → before.words ≡ word ∷ after
      → (Is word.text → ⊥) → line ≡ word.line → why ≡ reason.Syntax → Misses Is before line why
  ended : before.words ≡ [] → line ≡ before.end → why ≡ reason.Incomplete → Misses Is before line why

abbrev pub MissesBy : (List ℕ → Type 0) → Cursor → DimacsFault → Type 0
MissesBy Is before (fault.At line why) = Misses Is before line why
MissesBy Is before fault.NoMemory = ⊥

-- Which bytes are the text of a formula, and the first word at which others are none.
use Rattle.std.specs.Prelude.{◌≡◌, ℕ, ◌^◌, ◌<◌, List, [], ◌∷◌, ◌++◌, length}
use Rattle.std.specs.List.{All, flat_map}
use Rattle.cnf.specs.declared.lit.Lit.{Lit}
use Rattle.cnf.specs.Clauses.{Formula, IsInRange}
use Rattle.certificates.specs.Parts.Entries.{IsWritableLit}
use Rattle.dimacs.specs.declared.fault.DimacsFault.{DimacsFault}
use Rattle.dimacs.specs.declared.fault.DimacsFault.TheVariants as fault
use Rattle.dimacs.specs.declared.fault.DimacsReason.{DimacsReason}
use Rattle.dimacs.specs.declared.fault.DimacsReason.TheVariants as reason
use Rattle.dimacs.specs.Words.{Placed, text_words, end_line, texts}
use Rattle.dimacs.specs.Text.{head_words, clause_words}

-- the words are a head with these numbers, and these clauses; numbers are below 2^62
pub record Spells (words : List (List ℕ)) (vars count : ℕ) (clauses : List (List Lit)) : Type 0 where
  pub whole : words ≡ head_words vars count ++ flat_map clause_words clauses
  pub vars_small : vars < 2 ^ 62
  pub count_small : count < 2 ^ 62
  pub writable : All (All IsWritableLit) clauses

-- what a head with these numbers asks of its clauses: that they are so many
abbrev pub IsCounted : ℕ → ℕ → List (List Lit) → Type 0
IsCounted vars count clauses = length clauses ≡ count

-- and that they are over its variables
pub record Fits (vars count : ℕ) (clauses : List (List Lit)) : Type 0 where
  pub counted : length clauses ≡ count
  pub in_range : All (IsInRange vars) clauses

-- or nothing
abbrev pub AsksNothing : ℕ → ℕ → List (List Lit) → Type 0
AsksNothing vars count clauses = Unit {0}

-- with some words behind them, the words are a head and clauses of which it asks this
pub record GoesOn (Asks : ℕ → ℕ → List (List Lit) → Type 0) (words : List (List ℕ)) : Type 0 where
  pub more : List (List ℕ)
  pub vars : ℕ
  pub count : ℕ
  pub clauses : List (List Lit)
  pub spells : Spells (words ++ more) vars count clauses
  pub asked : Asks vars count clauses

-- the words are those of the formula
pub record IsTextOf (words : List (List ℕ)) (formula : Formula) : Type 0 where
  pub spells : Spells words formula.vars (length formula.clauses) formula.clauses
  pub in_range : All (IsInRange formula.vars) formula.clauses

-- the bytes are a text of the formula
abbrev pub Reads : List ℕ → Formula → Type 0
Reads bytes formula = IsTextOf (texts (text_words bytes)) formula

-- no text goes on so, and why: what the head asks would have to be given up, or that does not help
abbrev pub Stops : DimacsReason → List (List ℕ) → Type 0
Stops reason.Syntax words = GoesOn AsksNothing words → ⊥
Stops reason.TooMany words = (GoesOn IsCounted words → ⊥) × GoesOn AsksNothing words
Stops reason.Variable words = (GoesOn Fits words → ⊥) × GoesOn IsCounted words
Stops reason.Incomplete words = ⊥

-- the first word with which no text goes on; or the words could go on, but are no text
pub data IsRefused (words : List Placed) (end line : ℕ) (why : DimacsReason) : Type 0 where
  at : (before after : List Placed) (word : Placed) → words ≡ before ++ word ∷ after
      → GoesOn Fits (texts before) → Stops why (texts before ++ word.text ∷ [])
      → line ≡ word.line → IsRefused words end line why
  ends : GoesOn Fits (texts words) → ((formula : Formula) → IsTextOf (texts words) formula → ⊥)
      → why ≡ reason.Incomplete → line ≡ end → IsRefused words end line why

-- why the bytes are no text, and at which line, from 1; no bytes are refused for want of memory
abbrev pub Refuses : List ℕ → DimacsFault → Type 0
Refuses bytes (fault.At line why) = IsRefused (text_words bytes) (end_line bytes) line why
Refuses bytes fault.NoMemory = ⊥

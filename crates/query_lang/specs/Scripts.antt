-- Scripts.
use Rattle.std.specs.Prelude.{◌≡◌, ℕ, true, List, [], ◌∷◌, Option, Some, None}
use Rattle.query_tokens.specs.declared.token.Placed.{Placed}
use Rattle.query_tokens.specs.declared.token.Sign.TheVariants as sign_of
use Rattle.query_lang.specs.declared.script.Explore.{Explore}
use Rattle.query_lang.specs.declared.script.Kind.{Kind}
use Rattle.query_lang.specs.declared.script.Kind.TheVariants as kind
use Rattle.query_lang.specs.declared.script.Script.{Script}
use Rattle.query_lang.specs.declared.script.Statement.{Statement}
use Rattle.query_lang.specs.Rules.{Rules}
use Rattle.query_lang.specs.Words.{Tokens, sign}
use Rattle.query_lang.specs.Statements.{IsAsk, IsExplore, IsCommand}

-- the last EXPLORE did not begin on this line. Lines never fall, so no other one did
abbrev pub IsOffLine : Option ℕ → ℕ → Type 0
IsOffLine None line = Unit {0}
IsOffLine (Some explored) line = explored ≡ line → ⊥

-- a statement may ask
abbrev pub MayAsk : Rules → Option ℕ → Type 0
MayAsk rules None = rules.asks ≡ true
MayAsk rules (Some explored) = Unit {0}

-- statements, with the line on which the last EXPLORE before them began. A statement's line is that of its first token
pub data AreStatements (rules : Rules) : Option ℕ → List Statement → Tokens → Type 0 where
  none : (explored : Option ℕ) → AreStatements rules explored [] []
  ask : (explored : Option ℕ) (line : ℕ) (what : Kind) (first : Placed)
      (statements : List Statement) (tokens rest : Tokens)
      → MayAsk rules explored → IsAsk what (first ∷ tokens) (sign line sign_of.Semicolon ∷ rest)
      → AreStatements rules explored statements rest
      → AreStatements rules explored (record { line = first.line; kind = what } ∷ statements)
      (first ∷ tokens)
  explore : (explored : Option ℕ) (line : ℕ) (what : Explore) (first : Placed)
      (statements : List Statement) (tokens rest : Tokens)
      → IsOffLine explored first.line
      → IsExplore rules what (first ∷ tokens) (sign line sign_of.Semicolon ∷ rest)
      → AreStatements rules (Some first.line) statements rest
      → AreStatements rules explored
      (record { line = first.line; kind = kind.Explore what } ∷ statements) (first ∷ tokens)
  command : (explored : Option ℕ) (line : ℕ) (what : Kind) (first : Placed)
      (statements : List Statement) (tokens rest : Tokens)
      → IsCommand what (first ∷ tokens) (sign line sign_of.Semicolon ∷ rest)
      → AreStatements rules explored statements rest
      → AreStatements rules explored (record { line = first.line; kind = what } ∷ statements)
      (first ∷ tokens)

-- the tokens are a script
abbrev pub IsScript : Rules → Script → Tokens → Type 0
IsScript rules script tokens = AreStatements rules None script.statements tokens

-- What a part of a number test is.
use Rattle.std.specs.Prelude.{ℕ, Bool, true, false, List, ◌∷◌, drop}
use Rattle.query_tokens.specs.declared.token.Token.{Token}
use Rattle.query_tokens.specs.declared.token.Token.TheVariants as token
use Rattle.query_lang.specs.declared.read.literals.Asked.{Asked}
use Rattle.query_lang.specs.declared.read.literals.Asked.TheVariants as asked_of
use Rattle.query_lang.specs.Words as words
use Rattle.query_lang.specs.Words.{Tokens}
use Rattle.query_lang.specs.Literals.{NumberTest}
use Rattle.query_lang.specs.Machine.Going.{Goes, first_fails}
use Rattle.query_lang.specs.Machine.Steps.{number_test}

-- a number test as the reader keeps it
abbrev pub asked : Asked → NumberTest
asked (asked_of.Masked value wildcard) = NumberTest.masked value wildcard
asked (asked_of.Range low high) = NumberTest.range low high

-- such a test, and the place behind it
abbrev pub FoundTest : Tokens → ℕ → Asked × ℕ → Type 0
FoundTest tokens at found =
    Goes NumberTest number_test (asked found.0) (drop at tokens) (drop found.1 tokens)

abbrev pub begins_literal : Token → Bool
begins_literal (token.Digits text) = true
begins_literal (token.Quoted text) = true
begins_literal (token.Keyword w) = false
begins_literal (token.Name text) = false
begins_literal (token.Word text) = false
begins_literal (token.Sign s) = false
begins_literal token.Bad = false

-- a literal begins here
pub data BeginsLiteral : Tokens → Type 0 where
  digits : (line : ℕ) (text : List ℕ) (rest : Tokens)
      → BeginsLiteral (words.digits line text ∷ rest)
  quoted : (line : ℕ) (text : List ℕ) (rest : Tokens)
      → BeginsLiteral (words.quoted line text ∷ rest)

-- none does
pub record NoLiteral (ts : Tokens) : Type 0 where
  pub away : first_fails begins_literal ts

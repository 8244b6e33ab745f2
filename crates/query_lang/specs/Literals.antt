-- Literals, and the tests of numbers that are made of them. `rest` is what stands behind.
use Rattle.std.specs.Prelude.{◌≡◌, ℕ, ◌+◌, ◌*◌, ◌^◌, ◌-◌, true, List, ◌∷◌}
use Rattle.query_tokens.specs.declared.keyword.Keyword.TheVariants as keyword
use Rattle.query_tokens.specs.declared.token.Sign.TheVariants as sign_of
use Rattle.query_lang.specs.declared.literal.Literal.{Literal}
use Rattle.query_lang.specs.declared.literal.Literal.TheVariants as literal
use Rattle.query_lang.specs.Words.{Tokens, word, sign, digits, quoted, number, is_number}

-- the number of four bytes, the first heaviest
abbrev pub dotted_number : ℕ → ℕ → ℕ → ℕ → ℕ
dotted_number a b c d = 16777216 * a + 65536 * b + 256 * c + d

pub data IsLiteral : Literal → Tokens → Tokens → Type 0 where
  decimal : (line : ℕ) (text : List ℕ) (rest : Tokens) → is_number 0 (2 ^ 128 - 1) text ≡ true
      → IsLiteral (literal.Number (number text)) (digits line text ∷ rest) rest
  dotted : (i j k l m n o : ℕ) (a b c d : List ℕ) (rest : Tokens)
      → is_number 0 255 a ≡ true → is_number 0 255 b ≡ true → is_number 0 255 c ≡ true
      → is_number 0 255 d ≡ true
      → IsLiteral (literal.Number (dotted_number (number a) (number b) (number c) (number d)))
      (digits i a ∷ sign j sign_of.Dot ∷ digits k b ∷ sign l sign_of.Dot ∷ digits m c
      ∷ sign n sign_of.Dot ∷ digits o d ∷ rest) rest
  interface : (line : ℕ) (text : List ℕ) (rest : Tokens)
      → IsLiteral (literal.Interface text) (quoted line text ∷ rest) rest

-- what is asked of a number: that it agrees with a value on each bit that is 0 in a wildcard, or lies between two
pub data NumberTest : Type 0 where
  masked : Literal → Literal → NumberTest
  range : Literal → Literal → NumberTest

-- what stands behind IN
pub data IsNumberTest : NumberTest → Tokens → Tokens → Type 0 where
  value : (v : Literal) (tokens rest : Tokens) → IsLiteral v tokens rest
      → IsNumberTest (NumberTest.range v v) tokens rest
  wildcard : (v w : Literal) (tokens others rest : Tokens) → IsLiteral v tokens others
      → IsLiteral w others rest → IsNumberTest (NumberTest.masked v w) tokens rest
  range : (line : ℕ) (lo hi : Literal) (tokens others rest : Tokens)
      → IsLiteral lo tokens (word line keyword.To ∷ others) → IsLiteral hi others rest
      → IsNumberTest (NumberTest.range lo hi) tokens rest

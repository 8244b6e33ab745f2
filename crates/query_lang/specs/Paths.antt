-- Paths: a name, and components behind dots.
use Rattle.std.specs.Prelude.{ℕ, List, [], ◌∷◌}
use Rattle.query_tokens.specs.declared.keyword.Keyword.{Keyword}
use Rattle.query_tokens.specs.declared.token.Sign.TheVariants as sign_of
use Rattle.query_tokens.specs.declared.token.Token.TheVariants as token
use Rattle.query_tokens.specs.Keywords.{letters}
use Rattle.query_lang.specs.declared.literal.Path.{Path}
use Rattle.query_lang.specs.Words.{Tokens, on, word, sign, name, digits, quoted}
use Rattle.query_lang.specs.Chains.{IsChain}

-- any word, or a quoted text
pub data IsComponent : List ℕ → Tokens → Tokens → Type 0 where
  keyword : (line : ℕ) (keyword : Keyword) (rest : Tokens)
      → IsComponent (letters keyword) (word line keyword ∷ rest) rest
  plain : (line : ℕ) (text : List ℕ) (rest : Tokens) → IsComponent text (name line text ∷ rest) rest
  numeral : (line : ℕ) (text : List ℕ) (rest : Tokens)
      → IsComponent text (digits line text ∷ rest) rest
  other : (line : ℕ) (text : List ℕ) (rest : Tokens)
      → IsComponent text (on line (token.Word text) ∷ rest) rest
  text : (line : ℕ) (text : List ℕ) (rest : Tokens)
      → IsComponent text (quoted line text ∷ rest) rest

pub data IsPath : Path → Tokens → Tokens → Type 0 where
  alone : (line : ℕ) (text : List ℕ) (rest : Tokens)
      → IsPath (record { parts = text ∷ [] }) (name line text ∷ rest) rest
  longer : (i j : ℕ) (text : List ℕ) (parts : List (List ℕ)) (tokens rest : Tokens)
      → IsChain (List ℕ) (token.Sign sign_of.Dot) IsComponent parts tokens rest
      → IsPath (record { parts = text ∷ parts }) (name i text ∷ sign j sign_of.Dot ∷ tokens) rest

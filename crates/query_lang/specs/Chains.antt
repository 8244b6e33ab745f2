-- Parts joined by a separator.
use Rattle.std.specs.Prelude.{ℕ, List, [], ◌∷◌}
use Rattle.query_tokens.specs.declared.token.Token.{Token}
use Rattle.query_lang.specs.Words.{Tokens, on}

-- one part or more, each of which stands at the front of what is left by the part and the separator before it
pub data IsChain (Part : Type 0) (separator : Token) (Is : Part → Tokens → Tokens → Type 0) : List
    Part → Tokens → Tokens → Type 0 where
  one : (part : Part) (tokens rest : Tokens) → Is part tokens rest
      → IsChain Part separator Is (part ∷ []) tokens rest
  more : (line : ℕ) (part : Part) (parts : List Part) (tokens others rest : Tokens)
      → Is part tokens (on line separator ∷ others) → IsChain Part separator Is parts others rest
      → IsChain Part separator Is (part ∷ parts) tokens rest

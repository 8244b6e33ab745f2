-- The token that begins a text.
use Rattle.std.proofs.Common.{◌≡◌, ℕ, List, [], ◌∷◌, ◌++◌, append_assoc, sym, ◌∙◌, ap}
use Rattle.std.specs.List.{AllPass}
use Rattle.query_tokens.specs.declared.token.Sign.{Sign}
use Rattle.query_tokens.specs.declared.token.Token.{Token}
use Rattle.query_tokens.specs.declared.token.Token.TheVariants as variant
use Rattle.query_tokens.specs.Signs.{sign_text}
use Rattle.query_tokens.specs.Tokens.{BeginsToken, IsToken, is_quotable}
use Rattle.query_tokens.specs.Tokens.IsToken.{word, quoted, sign}
use Rattle.query_tokens.specs.Words.{IsWord}

-- a quoted text, with what stands behind it
pub quoted_text : (inner rest : List ℕ) → (34 ∷ (inner ++ 34 ∷ [])) ++ rest ≡ 34 ∷ (inner ++ 34 ∷ rest)
quoted_text inner rest = ap (λ zs. 34 ∷ zs) (append_assoc inner (34 ∷ []) rest)

pub quoted_begins : (text inner rest : List ℕ) → text ≡ 34 ∷ (inner ++ 34 ∷ rest) → AllPass is_quotable inner → (front : List ℕ) × BeginsToken text front (variant.Quoted inner) rest
quoted_begins text inner rest whole passes = (34 ∷ (inner ++ 34 ∷ []), record { whole = whole ∙ sym (quoted_text inner rest); is = quoted inner rest passes })

no_token_more : (text front : List ℕ) (token : Token) (rest : List ℕ)
    → ((word rest : List ℕ) → text ≡ word ++ rest → IsWord word → ⊥)
    → ((inner rest : List ℕ) → text ≡ 34 ∷ (inner ++ 34 ∷ rest) → AllPass is_quotable inner → ⊥)
    → ((sign : Sign) (rest : List ℕ) → text ≡ sign_text sign ++ rest → ⊥)
    → text ≡ front ++ rest → IsToken front token rest → ⊥
no_token_more text front token rest no_word no_text no_sign whole (word one behind its_token is stops kind) = no_word front rest whole is
no_token_more text front token rest no_word no_text no_sign whole (quoted inner behind passes) = no_text inner rest (whole ∙ quoted_text inner rest) passes
no_token_more text front token rest no_word no_text no_sign whole (sign its_sign behind) = no_sign its_sign rest whole

-- a text that begins with no word, no quoted text and no sign begins with no token
pub no_token : (text : List ℕ)
    → ((word rest : List ℕ) → text ≡ word ++ rest → IsWord word → ⊥)
    → ((inner rest : List ℕ) → text ≡ 34 ∷ (inner ++ 34 ∷ rest) → AllPass is_quotable inner → ⊥)
    → ((sign : Sign) (rest : List ℕ) → text ≡ sign_text sign ++ rest → ⊥)
    → (front : List ℕ) (token : Token) (rest : List ℕ) → BeginsToken text front token rest → ⊥
no_token text no_word no_text no_sign front token rest begins = no_token_more text front token rest no_word no_text no_sign begins.whole begins.is

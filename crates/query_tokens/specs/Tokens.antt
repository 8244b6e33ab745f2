-- The tokens of a script, and what may stand between them.
use Rattle.std.specs.Prelude.{◌≡◌, ℕ, ◌+◌, ◌<◌, ◌==◌, Bool, true, ◌&&◌, ◌||◌, not, List, [], ◌∷◌, ◌++◌, length, nat_le}
use Rattle.std.specs.List.{AllPass}
use Rattle.query_tokens.specs.declared.token.Placed.{Placed}
use Rattle.query_tokens.specs.declared.token.Sign.{Sign}
use Rattle.query_tokens.specs.declared.token.Token.{Token}
use Rattle.query_tokens.specs.declared.token.Token.TheVariants as variant
use Rattle.query_tokens.specs.Fronts.{Stops, IsLongest}
use Rattle.query_tokens.specs.Words.{IsWord, IsWordToken, continues_word}
use Rattle.query_tokens.specs.Signs.{sign_text}
use Rattle.query_tokens.specs.Lines.{line_feeds}

-- a blank, a tab, a carriage return or a line feed
abbrev pub is_blank : ℕ → Bool
is_blank byte = (byte == 32) || ((byte == 9) || ((byte == 13) || (byte == 10)))

-- any byte but a line feed
abbrev pub is_in_line : ℕ → Bool
is_in_line byte = not (byte == 10)

-- a byte from 32 to 126 but the double quote, 34
abbrev pub is_quotable : ℕ → Bool
is_quotable byte = nat_le 32 byte && (nat_le byte 126 && not (byte == 34))

-- a gap, before the rest: a blank, or `--` and all that follows it on its line
pub data IsGap : List ℕ → List ℕ → Type 0 where
  blank : (byte : ℕ) (rest : List ℕ) → is_blank byte ≡ true → IsGap (byte ∷ []) rest
  comment : (text rest : List ℕ) → IsLongest is_in_line text rest → IsGap (45 ∷ 45 ∷ text) rest

-- the text is this token, before the rest: a word that does not go on there, a text between double quotes, or a sign
pub data IsToken : List ℕ → Token → List ℕ → Type 0 where
  word : (word rest : List ℕ) (token : Token) → IsWord word → Stops continues_word rest → IsWordToken word token → IsToken word token rest
  quoted : (text rest : List ℕ) → AllPass is_quotable text → IsToken (34 ∷ (text ++ 34 ∷ [])) (variant.Quoted text) rest
  sign : (sign : Sign) (rest : List ℕ) → IsToken (sign_text sign) (variant.Sign sign) rest

-- a gap begins the bytes, and the rest stands behind it
pub record BeginsGap (bytes gap rest : List ℕ) : Type 0 where
  pub whole : bytes ≡ gap ++ rest
  pub is : IsGap gap rest

-- a token begins the bytes, and the rest stands behind it
pub record BeginsToken (bytes text : List ℕ) (token : Token) (rest : List ℕ) : Type 0 where
  pub whole : bytes ≡ text ++ rest
  pub is : IsToken text token rest

-- no gap begins the bytes
abbrev pub HasNoGap : List ℕ → Type 0
HasNoGap bytes = (gap rest : List ℕ) → BeginsGap bytes gap rest → ⊥

-- no token begins the bytes
abbrev pub HasNoToken : List ℕ → Type 0
HasNoToken bytes = (text : List ℕ) (token : Token) (rest : List ℕ) → BeginsToken bytes text token rest → ⊥

-- there are bytes, and neither a gap nor a token begins them
pub record IsBad (bytes : List ℕ) : Type 0 where
  pub some : 0 < length bytes
  pub no_gap : HasNoGap bytes
  pub no_token : HasNoToken bytes

-- the tokens of bytes that begin on this line: gaps are passed over, each token has its line, and bytes that are no
-- token end the list
pub data AreTokensFrom : ℕ → List ℕ → List Placed → Type 0 where
  end : (line : ℕ) → AreTokensFrom line [] []
  gap : (line : ℕ) (bytes gap rest : List ℕ) (tokens : List Placed) → BeginsGap bytes gap rest → AreTokensFrom (line + line_feeds gap) rest tokens → AreTokensFrom line bytes tokens
  token : (line : ℕ) (bytes text : List ℕ) (token : Token) (rest : List ℕ) (tokens : List Placed) → BeginsToken bytes text token rest → AreTokensFrom line rest tokens → AreTokensFrom line bytes (record { line = line; token = token } ∷ tokens)
  bad : (line : ℕ) (bytes : List ℕ) → IsBad bytes → AreTokensFrom line bytes (record { line = line; token = variant.Bad } ∷ [])

-- the tokens of a script
abbrev pub AreTokens : List ℕ → List Placed → Type 0
AreTokens bytes tokens = AreTokensFrom 1 bytes tokens

-- The tokens so far, of a text that is not read to its end.
use Rattle.std.proofs.Common.{◌≡◌, ℕ, ◌+◌, ◌<◌, List, [], ◌∷◌, ◌++◌, length, append_assoc, append-nil, ◌∙◌, ap, arith, rules, lit<}
use Rattle.std.proofs.lemmas.List.{length-append}
use Rattle.query_tokens.specs.declared.token.Placed.{Placed}
use Rattle.query_tokens.specs.declared.token.Sign.{Sign}
use Rattle.query_tokens.specs.declared.token.Sign.TheVariants as variant_of_sign
use Rattle.query_tokens.specs.declared.token.Token.{Token}
use Rattle.query_tokens.specs.declared.token.Token.TheVariants as variant
use Rattle.query_tokens.specs.Signs.{sign_text}
use Rattle.query_tokens.specs.Lines.{line_feeds}
use Rattle.query_tokens.specs.Tokens.{AreTokensFrom, AreTokens, BeginsGap, BeginsToken, IsBad, IsGap, IsToken}
use Rattle.query_tokens.specs.Tokens.AreTokensFrom.{end as end_of, gap as gap_of, token as token_of, bad as bad_of}
use Rattle.query_tokens.specs.Tokens.IsGap.{blank, comment}
use Rattle.query_tokens.specs.Tokens.IsToken.{word, quoted, sign}

-- with any tokens of the rest they are tokens of all
pub record SoFar (bytes : List ℕ) (tokens : List Placed) (line : ℕ) (rest : List ℕ) : Type 0 where
  pub goes_on : (more : List Placed) → AreTokensFrom line rest more → AreTokens bytes (tokens ++ more)

pub so_far_none : (bytes : List ℕ) → SoFar bytes [] 1 bytes
so_far_none bytes = record { goes_on = λ more are. are }

pub so_far_gap : (bytes : List ℕ) (tokens : List Placed) (line : ℕ) (rest gap behind : List ℕ) → SoFar bytes tokens line rest → BeginsGap rest gap behind → SoFar bytes tokens (line + line_feeds gap) behind
so_far_gap bytes tokens line rest gap behind far begins = record { goes_on = λ more are. far.goes_on more (gap_of line rest gap behind more begins are) }

pub so_far_token : (bytes : List ℕ) (tokens : List Placed) (line : ℕ) (rest text : List ℕ) (token : Token) (behind : List ℕ) → SoFar bytes tokens line rest → BeginsToken rest text token behind
    → SoFar bytes (tokens ++ record { line = line; token = token } ∷ []) line behind
so_far_token bytes tokens line rest text token behind far begins =
    record { goes_on = λ more are. rw (append_assoc tokens (record { line = line; token = token } ∷ []) more) (far.goes_on (record { line = line; token = token } ∷ more) (token_of line rest text token behind more begins are)) }

pub so_far_bad : (bytes : List ℕ) (tokens : List Placed) (line : ℕ) (rest : List ℕ) → SoFar bytes tokens line rest → IsBad rest → AreTokens bytes (tokens ++ record { line = line; token = variant.Bad } ∷ [])
so_far_bad bytes tokens line rest far bad = far.goes_on (record { line = line; token = variant.Bad } ∷ []) (bad_of line rest bad)

pub so_far_end : (bytes : List ℕ) (tokens : List Placed) (line : ℕ) (rest : List ℕ) → SoFar bytes tokens line rest → length rest ≡ 0 → AreTokens bytes tokens
so_far_end bytes tokens line [] far none = rw (← (append-nil tokens)) (far.goes_on [] (end_of line))
so_far_end bytes tokens line (x ∷ xs) far none = absurd (omega arith)

gap_is_some : (gap rest : List ℕ) → IsGap gap rest → 0 < length gap
gap_is_some gap rest (blank byte behind is) = search rules
gap_is_some gap rest (comment text behind longest) = search rules

sign_is_some : (sign : Sign) → 0 < length (sign_text sign)
sign_is_some variant_of_sign.Semicolon = lit< tt
sign_is_some variant_of_sign.Colon = lit< tt
sign_is_some variant_of_sign.Comma = lit< tt
sign_is_some variant_of_sign.Dot = lit< tt
sign_is_some variant_of_sign.Equals = lit< tt
sign_is_some variant_of_sign.Question = lit< tt
sign_is_some variant_of_sign.Open = lit< tt
sign_is_some variant_of_sign.Close = lit< tt
sign_is_some variant_of_sign.OpenBracket = lit< tt
sign_is_some variant_of_sign.CloseBracket = lit< tt
sign_is_some variant_of_sign.Request = lit< tt

token_is_some : (text : List ℕ) (token : Token) (rest : List ℕ) → IsToken text token rest → 0 < length text
token_is_some [] token rest (word one behind its_token is stops kind) = absurd is
token_is_some (x ∷ xs) token rest (word one behind its_token is stops kind) = search rules
token_is_some text token rest (quoted inner behind passes) = search rules
token_is_some text token rest (sign its_sign behind) = sign_is_some its_sign

-- less is left behind a gap, and behind a token
pub gap_shortens : (text gap rest : List ℕ) → BeginsGap text gap rest → (length gap + length rest ≡ length text) × (length rest < length text)
gap_shortens text gap rest begins =
    let e = ap length begins.whole ∙ length-append gap rest in
    let some = gap_is_some gap rest begins.is in
    (omega arith, omega arith)

pub token_shortens : (text front : List ℕ) (token : Token) (rest : List ℕ) → BeginsToken text front token rest → length rest < length text
token_shortens text front token rest begins =
    let e = ap length begins.whole ∙ length-append front rest in
    let some = token_is_some front token rest begins.is in
    omega arith

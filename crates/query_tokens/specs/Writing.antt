-- How tokens are written: a line for each list of them.
use Rattle.std.specs.Prelude.{ℕ, ◌+◌, Bool, true, false, ◌&&◌, ◌||◌, if◌then◌else◌, List, [], ◌∷◌, ◌++◌, map}
use Rattle.std.specs.List.{flat_map}
use Rattle.query_tokens.specs.declared.token.Placed.{Placed}
use Rattle.query_tokens.specs.declared.token.Sign.TheVariants as sign
use Rattle.query_tokens.specs.declared.token.Token.{Token}
use Rattle.query_tokens.specs.declared.token.Token.TheVariants as variant
use Rattle.query_tokens.specs.Keywords.{letters}
use Rattle.query_tokens.specs.Signs.{sign_text}
use Rattle.query_tokens.specs.Tokens.{IsToken}

-- the bytes of a token; bytes that are no token have none
abbrev pub spelling : Token → List ℕ
spelling (variant.Keyword keyword) = letters keyword
spelling (variant.Name text) = text
spelling (variant.Digits text) = text
spelling (variant.Word text) = text
spelling (variant.Quoted text) = 34 ∷ (text ++ 34 ∷ [])
spelling (variant.Sign sign) = sign_text sign
spelling variant.Bad = []

-- a word or a quoted text
abbrev pub is_text : Token → Bool
is_text (variant.Sign sign) = false
is_text variant.Bad = false
is_text _ = true

abbrev pub is_keyword : Token → Bool
is_keyword (variant.Keyword keyword) = true
is_keyword _ = false

-- the sign behind which a text stands apart: `)`, `]` or `<req>`
abbrev pub closes : Token → Bool
closes (variant.Sign sign.Close) = true
closes (variant.Sign sign.CloseBracket) = true
closes (variant.Sign sign.Request) = true
closes _ = false

-- `(` or `[`
abbrev pub opens : Token → Bool
opens (variant.Sign sign.Open) = true
opens (variant.Sign sign.OpenBracket) = true
opens _ = false

abbrev pub is_equals : Token → Bool
is_equals (variant.Sign sign.Equals) = true
is_equals _ = false

abbrev pub is_comma : Token → Bool
is_comma (variant.Sign sign.Comma) = true
is_comma _ = false

-- a blank stands between two texts, around `=`, behind `,`, between what closes and a text, and between a keyword and
-- what opens
unfoldable pub has_blank : Token → Token → Bool
has_blank left right = (is_text left && is_text right) || (is_equals left || (is_equals right || (is_comma left || ((closes left && is_text right) || (is_keyword left && opens right)))))

-- the next token, with the blank before it where there is one
abbrev pub next_text : Token → Token → List ℕ
next_text token next = if has_blank token next then 32 ∷ spelling next else spelling next

-- what follows the token on its line
abbrev pub text_behind : Token → List Token → List ℕ
text_behind token [] = 10 ∷ []
text_behind token (next ∷ more) = next_text token next ++ text_behind next more

-- the tokens of one line, and the line feed behind them
unfoldable pub line_text : List Token → List ℕ
line_text [] = 10 ∷ []
line_text (token ∷ more) = spelling token ++ text_behind token more

-- the lines one behind the other
abbrev pub lines_text : List (List Token) → List ℕ
lines_text lines = flat_map line_text lines

-- the tokens of the lines, of which the first has this number
abbrev pub tokens_of_lines : ℕ → List (List Token) → List Placed
tokens_of_lines line [] = []
tokens_of_lines line (tokens ∷ more) = map (λ token. record { line = line; token = token }) tokens ++ tokens_of_lines (line + 1) more

-- the token is what its spelling is: each name, each numeral, each other word and each quoted text is of its kind, and
-- it is not `Bad`
abbrev pub IsWritable : Token → Type 0
IsWritable token = IsToken (spelling token) token []

-- The tokens that grammars speak of, each with its line.
use Rattle.std.specs.Prelude.{ℕ, Bool, false, ◌&&◌, List, [], ◌∷◌, nat_le}
use Rattle.std.specs.Str.{all_ascii_digits}
use Rattle.std.specs.Str.Parse.{digits_value}
use Rattle.query_tokens.specs.declared.keyword.Keyword.{Keyword}
use Rattle.query_tokens.specs.declared.token.Placed.{Placed}
use Rattle.query_tokens.specs.declared.token.Sign.{Sign}
use Rattle.query_tokens.specs.declared.token.Token.{Token}
use Rattle.query_tokens.specs.declared.token.Token.TheVariants as token

abbrev pub Tokens : Type 0
Tokens = List Placed

abbrev pub on : ℕ → Token → Placed
on line token = record { line = line; token = token }

abbrev pub word : ℕ → Keyword → Placed
word line which = on line (token.Keyword which)

abbrev pub sign : ℕ → Sign → Placed
sign line mark = on line (token.Sign mark)

abbrev pub name : ℕ → List ℕ → Placed
name line text = on line (token.Name text)

abbrev pub digits : ℕ → List ℕ → Placed
digits line text = on line (token.Digits text)

abbrev pub quoted : ℕ → List ℕ → Placed
quoted line text = on line (token.Quoted text)

-- the number of a word of digits
abbrev pub number : List ℕ → ℕ
number text = digits_value 10 text

-- one decimal digit or more
abbrev pub is_numeral : List ℕ → Bool
is_numeral [] = false
is_numeral (first ∷ more) = all_ascii_digits (first ∷ more)

-- the text is a number from `low` to `high`
abbrev pub is_number : ℕ → ℕ → List ℕ → Bool
is_number low high text = is_numeral text && (nat_le low (number text) && nat_le (number text) high)

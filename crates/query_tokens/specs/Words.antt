-- Words of scripts, and their kinds.
use Rattle.std.specs.Prelude.{◌≡◌, ℕ, ◌==◌, Bool, true, false, ◌&&◌, ◌||◌, not, List, [], ◌∷◌}
use Rattle.std.specs.Char.{is_ascii_alphabetic, is_ascii_digit}
use Rattle.std.specs.List.{AllPass, list_all}
use Rattle.std.specs.Str.Parse.{IsNumeral}
use Rattle.query_tokens.specs.declared.keyword.Keyword.{Keyword}
use Rattle.query_tokens.specs.declared.token.Token.{Token}
use Rattle.query_tokens.specs.declared.token.Token.TheVariants as variant
use Rattle.query_tokens.specs.Keywords.{letters, is_keyword, IsNoKeyword}

-- a letter, a digit or `_`, 95
abbrev pub begins_word : ℕ → Bool
begins_word byte = is_ascii_alphabetic byte || (is_ascii_digit byte || (byte == 95))

-- one of these, or `-`, 45
abbrev pub continues_word : ℕ → Bool
continues_word byte = begins_word byte || (byte == 45)

-- the bytes are a word
abbrev pub IsWord : List ℕ → Type 0
IsWord [] = ⊥
IsWord (first ∷ more) = (begins_word first ≡ true) × AllPass continues_word more

-- the text begins with a letter
abbrev pub begins_with_letter : List ℕ → Bool
begins_with_letter [] = false
begins_with_letter (first ∷ more) = is_ascii_alphabetic first

-- the bytes are a name: a word that begins with a letter and is no keyword
abbrev pub is_name : List ℕ → Bool
is_name text = begins_with_letter text && (list_all continues_word text && not (is_keyword text))

-- the token that a word is: a keyword, a name if it begins with a letter, digits, or any other word
pub data IsWordToken (word : List ℕ) : Token → Type 0 where
  keyword : (keyword : Keyword) → word ≡ letters keyword → IsWordToken word (variant.Keyword keyword)
  name : IsNoKeyword word → begins_with_letter word ≡ true → IsWordToken word (variant.Name word)
  digits : IsNumeral 10 word → IsWordToken word (variant.Digits word)
  other : begins_with_letter word ≡ false → (IsNumeral 10 word → ⊥) → IsWordToken word (variant.Word word)

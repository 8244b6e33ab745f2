-- Which tokens are what their spellings are.
use Rattle.std.proofs.Common.{◌≡◌, ℕ, ◌<◌, Bool, true, false, ◌&&◌, ◌||◌, not, List, [], ◌∷◌, ◌==◌, refl, ap, sym, ◌∙◌, subst, arith}
use Rattle.std.proofs.lemmas.Bool.{and_parts}
use Rattle.std.proofs.lemmas.Bool.Decides.{nat_tests}
use Rattle.std.proofs.lemmas.List.Elements.{All-nil, All-cons, All-head, All-tail}
use Rattle.std.proofs.lemmas.List.Sums.{AllPass-from_list_all}
use Rattle.std.proofs.lemmas.Str.Parse.{digit_from_value}
use Rattle.std.specs.Char.{digit_value, is_ascii_alphabetic, is_ascii_digit}
use Rattle.std.specs.List.{AllPass, list_all}
use Rattle.std.specs.Str.Parse.{IsNumeral, AllDigits}
use Rattle.query_tokens.specs.declared.keyword.Keyword.{Keyword}
use Rattle.query_tokens.specs.declared.keyword.Keyword.TheVariants as keyword
use Rattle.query_tokens.specs.declared.token.Sign.{Sign}
use Rattle.query_tokens.specs.declared.token.Token.{Token}
use Rattle.query_tokens.specs.declared.token.Token.TheVariants as token
use Rattle.query_tokens.specs.Keywords.{letters, is_keyword, IsNoKeyword}
use Rattle.query_tokens.specs.Tokens.{IsToken, is_quotable}
use Rattle.query_tokens.specs.Words.{IsWord, IsWordToken, begins_word, continues_word, begins_with_letter, is_name}
use Rattle.query_tokens.specs.Writing.{spelling, IsWritable}
use Rattle.query_tokens.proofs.KeywordTable.{letters_begin}

pub sign_writable : (sign : Sign) → IsWritable (token.Sign sign)
sign_writable sign = IsToken.sign sign []

-- Words.

letters_go_on : (k : Keyword) → list_all continues_word (letters k) ≡ true
letters_go_on keyword.Load = refl
letters_go_on keyword.Vocab = refl
letters_go_on keyword.Policy = refl
letters_go_on keyword.Ios = refl
letters_go_on keyword.Iptables = refl
letters_go_on keyword.As = refl
letters_go_on keyword.Explore = refl
letters_go_on keyword.Under = refl
letters_go_on keyword.Include = refl
letters_go_on keyword.Is = refl
letters_go_on keyword.Possible = refl
letters_go_on keyword.Show = refl
letters_go_on keyword.One = refl
letters_go_on keyword.First = refl
letters_go_on keyword.All = refl
letters_go_on keyword.Full = refl
letters_go_on keyword.Up = refl
letters_go_on keyword.Realized = refl
letters_go_on keyword.Unrealized = refl
letters_go_on keyword.Bounds = refl
letters_go_on keyword.Proof = refl
letters_go_on keyword.Compare = refl
letters_go_on keyword.Decide = refl
letters_go_on keyword.Generate = refl
letters_go_on keyword.Link = refl
letters_go_on keyword.Path = refl
letters_go_on keyword.Within = refl
letters_go_on keyword.Audit = refl
letters_go_on keyword.Core = refl
letters_go_on keyword.Where = refl
letters_go_on keyword.And = refl
letters_go_on keyword.Or = refl
letters_go_on keyword.Not = refl
letters_go_on keyword.Implies = refl
letters_go_on keyword.Iff = refl
letters_go_on keyword.Forall = refl
letters_go_on keyword.Exists = refl
letters_go_on keyword.In = refl
letters_go_on keyword.To = refl
letters_go_on keyword.True = refl
letters_go_on keyword.False = refl

keyword_is : (k : Keyword) → is_keyword (letters k) ≡ true
unfolding is_keyword
keyword_is keyword.Load = refl
keyword_is keyword.Vocab = refl
keyword_is keyword.Policy = refl
keyword_is keyword.Ios = refl
keyword_is keyword.Iptables = refl
keyword_is keyword.As = refl
keyword_is keyword.Explore = refl
keyword_is keyword.Under = refl
keyword_is keyword.Include = refl
keyword_is keyword.Is = refl
keyword_is keyword.Possible = refl
keyword_is keyword.Show = refl
keyword_is keyword.One = refl
keyword_is keyword.First = refl
keyword_is keyword.All = refl
keyword_is keyword.Full = refl
keyword_is keyword.Up = refl
keyword_is keyword.Realized = refl
keyword_is keyword.Unrealized = refl
keyword_is keyword.Bounds = refl
keyword_is keyword.Proof = refl
keyword_is keyword.Compare = refl
keyword_is keyword.Decide = refl
keyword_is keyword.Generate = refl
keyword_is keyword.Link = refl
keyword_is keyword.Path = refl
keyword_is keyword.Within = refl
keyword_is keyword.Audit = refl
keyword_is keyword.Core = refl
keyword_is keyword.Where = refl
keyword_is keyword.And = refl
keyword_is keyword.Or = refl
keyword_is keyword.Not = refl
keyword_is keyword.Implies = refl
keyword_is keyword.Iff = refl
keyword_is keyword.Forall = refl
keyword_is keyword.Exists = refl
keyword_is keyword.In = refl
keyword_is keyword.To = refl
keyword_is keyword.True = refl
keyword_is keyword.False = refl

letter_begins : (c : ℕ) → is_ascii_alphabetic c ≡ true → begins_word c ≡ true
letter_begins c e = ap (λ (b : Bool). b || (is_ascii_digit c || (c == 95))) e

word_from : (text : List ℕ) → begins_with_letter text ≡ true → list_all continues_word text ≡ true → IsWord text
word_from [] letter rest = absurd (cc letter)
word_from (c ∷ cs) letter rest = (letter_begins c letter, AllPass-from_list_all continues_word cs (and_parts (continues_word c) (list_all continues_word cs) rest).1)

pub keyword_writable : (k : Keyword) → IsWritable (token.Keyword k)
keyword_writable k = IsToken.word (letters k) [] (token.Keyword k) (word_from (letters k) (letters_begin k) (letters_go_on k)) tt (IsWordToken.keyword k refl)

false_is_no : (b : Bool) → not b ≡ true → b ≡ false
false_is_no true e = absurd (cc e)
false_is_no false e = refl

no_keyword : (text : List ℕ) → is_keyword text ≡ false → IsNoKeyword text
no_keyword text e k same = absurd (cc (sym e ∙ (ap is_keyword same ∙ keyword_is k)))

pub name_writable : (text : List ℕ) → is_name text ≡ true → IsWritable (token.Name text)
name_writable text e =
    let parts = and_parts (begins_with_letter text) (list_all continues_word text && not (is_keyword text)) e in
    let behind = and_parts (list_all continues_word text) (not (is_keyword text)) parts.1 in
    IsToken.word text [] (token.Name text) (word_from text parts.0 behind.0) tt
    (IsWordToken.name (no_keyword text (false_is_no (is_keyword text) behind.1)) parts.0)

-- Numerals.

digit_goes_on : (c : ℕ) → digit_value c < 10 → (begins_word c ≡ true) × (continues_word c ≡ true)
digit_goes_on c digit = let range = digit_from_value c digit in (grind (arith, nat_tests), grind (arith, nat_tests))

digits_go_on : (text : List ℕ) → AllDigits 10 text → AllPass continues_word text
digits_go_on [] digits = All-nil (λ x. continues_word x ≡ true)
digits_go_on (c ∷ cs) digits = All-cons (λ x. continues_word x ≡ true) c cs (digit_goes_on c digits.0).1 (digits_go_on cs digits.1)

numeral_word : (text : List ℕ) → IsNumeral 10 text → IsWord text
numeral_word [] numeral = let less = numeral.0 in absurd (omega arith)
numeral_word (c ∷ cs) numeral = let digits = numeral.1 in ((digit_goes_on c digits.0).0, digits_go_on cs digits.1)

pub numeral_writable : (text : List ℕ) → IsNumeral 10 text → IsWritable (token.Digits text)
numeral_writable text numeral = IsToken.word text [] (token.Digits text) (numeral_word text numeral) tt (IsWordToken.digits numeral)

-- Quoted texts.

pub quoted_writable : (text : List ℕ) → AllPass is_quotable text → IsWritable (token.Quoted text)
quoted_writable text passes = IsToken.quoted text [] passes

-- the text of the token can stand between quotes
abbrev pub IsQuotable : Token → Type 0
IsQuotable (token.Keyword keyword) = AllPass is_quotable (letters keyword)
IsQuotable (token.Name text) = AllPass is_quotable text
IsQuotable (token.Digits text) = AllPass is_quotable text
IsQuotable (token.Word text) = AllPass is_quotable text
IsQuotable (token.Quoted text) = AllPass is_quotable text
IsQuotable _ = Unit {0}

word_byte : (c : ℕ) → continues_word c ≡ true → is_quotable c ≡ true
word_byte c e = grind (arith, nat_tests)

begins_goes_on : (c : ℕ) → begins_word c ≡ true → continues_word c ≡ true
begins_goes_on c e = ap (λ (b : Bool). b || (c == 45)) e

word_bytes : (text : List ℕ) → AllPass continues_word text → AllPass is_quotable text
word_bytes [] passes = All-nil (λ x. is_quotable x ≡ true)
word_bytes (c ∷ cs) passes =
    All-cons (λ x. is_quotable x ≡ true) c cs (word_byte c (All-head (λ x. continues_word x ≡ true) c cs passes)) (word_bytes cs (All-tail (λ x. continues_word x ≡ true) c cs passes))

word_quotable : (text : List ℕ) → IsWord text → AllPass is_quotable text
word_quotable [] is = absurd is
word_quotable (c ∷ cs) is = All-cons (λ x. is_quotable x ≡ true) c cs (word_byte c (begins_goes_on c is.0)) (word_bytes cs is.1)

of_word : (text : List ℕ) (token : Token) → IsWordToken text token → AllPass is_quotable text → IsQuotable token
of_word text _ (IsWordToken.keyword k is) passes = subst (λ (t : List ℕ). AllPass is_quotable t) is passes
of_word text _ (IsWordToken.name none letter) passes = passes
of_word text _ (IsWordToken.digits numeral) passes = passes
of_word text _ (IsWordToken.other no_letter no_numeral) passes = passes

of_token : (text : List ℕ) (token : Token) (rest : List ℕ) → IsToken text token rest → IsQuotable token
of_token text _ rest (IsToken.word its xs token is stops kind) = of_word text token kind (word_quotable text is)
of_token _ _ rest (IsToken.quoted text xs passes) = passes
of_token _ _ rest (IsToken.sign sign xs) = tt

pub writable_quotable : (token : Token) → IsWritable token → IsQuotable token
writable_quotable token is = of_token (spelling token) token [] is

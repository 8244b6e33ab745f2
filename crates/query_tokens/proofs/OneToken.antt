-- A text begins with one gap or one token at most.
use Rattle.std.proofs.Common.{◌≡◌, ℕ, ◌==◌, true, false, cond, ◌||◌, List, [], ◌∷◌, ◌++◌, get_or, refl, sym, ◌∙◌, ap, subst, arith}
use Rattle.std.specs.List.{AllPass}
use Rattle.std.specs.Str.Parse.{IsNumeral}
use Rattle.std.proofs.lemmas.Bool.{false≢true}
use Rattle.std.proofs.lemmas.Bool.Decides.{nat_tests}
use Rattle.std.proofs.lemmas.List.{append_cancel_left}
use Rattle.std.proofs.lemmas.List.Elements.{All-cons}
use Rattle.std.proofs.lemmas.Str.Parse.{digit_from_value}
use Rattle.query_tokens.specs.declared.token.Sign.{Sign}
use Rattle.query_tokens.specs.declared.token.Sign.TheVariants as sign
use Rattle.query_tokens.specs.declared.token.Token.{Token}
use Rattle.query_tokens.specs.declared.token.Token.TheVariants as variant
use Rattle.query_tokens.specs.Keywords.{letters}
use Rattle.query_tokens.specs.Signs.{sign_text}
use Rattle.query_tokens.specs.Tokens.{BeginsGap, BeginsToken, IsGap, IsToken, is_blank, is_in_line, is_quotable}
use Rattle.query_tokens.specs.Tokens.IsGap.{blank, comment}
use Rattle.query_tokens.specs.Tokens.IsToken.{word, quoted, sign as sign_token}
use Rattle.query_tokens.specs.Words.{IsWord, IsWordToken, begins_word, continues_word, begins_with_letter}
use Rattle.query_tokens.specs.Words.IsWordToken.{keyword, name, digits, other as other_word}
use Rattle.query_tokens.proofs.Longest.{longest_is_one}
use Rattle.query_tokens.proofs.FirstTokens.{quoted_text}
use Rattle.query_tokens.proofs.KeywordTable.{letters_differ, letters_begin}

-- what the first byte says: a gap, a word, a quoted text or a sign
abbrev class : ℕ → ℕ
class byte = cond (is_blank byte || (byte == 45)) 0 (cond (begins_word byte) 1 (cond (byte == 34) 2 3))

class_of_blank : (byte : ℕ) → is_blank byte ≡ true → class byte ≡ 0
class_of_blank byte is = rw is refl

class_of_word : (byte : ℕ) → begins_word byte ≡ true → class byte ≡ 1
class_of_word byte is = grind (arith, nat_tests)

class_of_gap : (gap rest : List ℕ) → IsGap gap rest → class (get_or (gap ++ rest) 0 0) ≡ 0
class_of_gap gap rest (blank byte behind is) = class_of_blank byte is
class_of_gap gap rest (comment text behind longest) = refl

class_of_first : (text rest : List ℕ) → IsWord text → class (get_or (text ++ rest) 0 0) ≡ 1
class_of_first [] rest is = absurd is
class_of_first (x ∷ xs) rest is = class_of_word x is.0

class_of_sign : (sign : Sign) (rest : List ℕ) → class (get_or (sign_text sign ++ rest) 0 0) ≡ 3
class_of_sign sign.Semicolon rest = refl
class_of_sign sign.Colon rest = refl
class_of_sign sign.Comma rest = refl
class_of_sign sign.Dot rest = refl
class_of_sign sign.Equals rest = refl
class_of_sign sign.Question rest = refl
class_of_sign sign.Open rest = refl
class_of_sign sign.Close rest = refl
class_of_sign sign.OpenBracket rest = refl
class_of_sign sign.CloseBracket rest = refl
class_of_sign sign.Request rest = refl

gap_no_token_more : (gap text : List ℕ) (token : Token) (rest behind : List ℕ) → gap ++ rest ≡ text ++ behind → IsGap gap rest → IsToken text token behind → ⊥
gap_no_token_more gap text token rest behind same is (word one other_rest its_token is_word stops kind) =
    let first = class_of_gap gap rest is in let second = class_of_first text behind is_word in let e = ap (λ zs. class (get_or zs 0 0)) same in absurd (cc)
gap_no_token_more gap text token rest behind same is (quoted inner other_rest passes) =
    let first = class_of_gap gap rest is in let e = ap (λ zs. class (get_or zs 0 0)) same in absurd (cc)
gap_no_token_more gap text token rest behind same is (sign_token its_sign other_rest) =
    let first = class_of_gap gap rest is in let second = class_of_sign its_sign behind in let e = ap (λ zs. class (get_or zs 0 0)) same in absurd (cc)

-- a gap is no token
pub gap_no_token : (bytes gap text : List ℕ) (token : Token) (rest behind : List ℕ) → BeginsGap bytes gap rest → BeginsToken bytes text token behind → ⊥
gap_no_token bytes gap text token rest behind first second = gap_no_token_more gap text token rest behind (sym first.whole ∙ second.whole) first.is second.is

dash_is_no_blank : (byte : ℕ) → is_blank byte ≡ true → byte ≡ 45 → ⊥
dash_is_no_blank byte is same = let P : ℕ → Type 0 = λ b. is_blank b ≡ true in false≢true (subst P same is)

gap_same : (gap other rest behind : List ℕ) → gap ++ rest ≡ other ++ behind → IsGap gap rest → IsGap other behind → (gap ≡ other) × (rest ≡ behind)
gap_same gap other rest behind same (blank x xs first) (blank y ys second) = (cc, cc)
gap_same gap other rest behind same (blank x xs first) (comment line ys second) = absurd (dash_is_no_blank x first (cc))
gap_same gap other rest behind same (comment line xs first) (blank y ys second) = absurd (dash_is_no_blank y second (cc))
gap_same gap other rest behind same (comment line xs first) (comment others ys second) =
    let tail : line ++ rest ≡ others ++ behind = cc in
    let one = longest_is_one is_in_line line others rest behind tail first second in
    (ap (λ zs. 45 ∷ 45 ∷ zs) one.0, one.1)

-- a text begins with one gap at most
pub gap_is_one : (bytes gap other rest behind : List ℕ) → BeginsGap bytes gap rest → BeginsGap bytes other behind → (gap ≡ other) × (rest ≡ behind)
gap_is_one bytes gap other rest behind first second = gap_same gap other rest behind (sym first.whole ∙ second.whole) first.is second.is

numeral_no_letter : (text : List ℕ) → IsNumeral 10 text → begins_with_letter text ≡ false
numeral_no_letter [] numeral = refl
numeral_no_letter (x ∷ xs) numeral = let digit = digit_from_value x numeral.1.0 in grind (arith, nat_tests)

keyword_no_numeral : (text : List ℕ) → begins_with_letter text ≡ true → IsNumeral 10 text → ⊥
keyword_no_numeral text letter numeral = false≢true (sym (numeral_no_letter text numeral) ∙ letter)

letter_of : (text : List ℕ) (its : _) → text ≡ letters its → begins_with_letter text ≡ true
letter_of text its is = rw is (letters_begin its)

-- a word is one token
pub word_is_one : (text : List ℕ) (first second : Token) → IsWordToken text first → IsWordToken text second → first ≡ second
word_is_one text first second (keyword j is) (keyword k same) = ap variant.Keyword (letters_differ j k (sym is ∙ same))
word_is_one text first second (keyword j is) (name none letter) = absurd (none j is)
word_is_one text first second (keyword j is) (digits numeral) = absurd (keyword_no_numeral text (letter_of text j is) numeral)
word_is_one text first second (keyword j is) (other_word no_letter no_numeral) = absurd (false≢true (sym no_letter ∙ letter_of text j is))
word_is_one text first second (name none letter) (keyword k same) = absurd (none k same)
word_is_one text first second (name none letter) (name none' letter') = refl
word_is_one text first second (name none letter) (digits numeral) = absurd (keyword_no_numeral text letter numeral)
word_is_one text first second (name none letter) (other_word no_letter no_numeral) = absurd (false≢true (sym no_letter ∙ letter))
word_is_one text first second (digits numeral) (keyword k same) = absurd (keyword_no_numeral text (letter_of text k same) numeral)
word_is_one text first second (digits numeral) (name none letter) = absurd (keyword_no_numeral text letter numeral)
word_is_one text first second (digits numeral) (digits numeral') = refl
word_is_one text first second (digits numeral) (other_word no_letter no_numeral) = absurd (no_numeral numeral)
word_is_one text first second (other_word no_letter no_numeral) (keyword k same) = absurd (false≢true (sym no_letter ∙ letter_of text k same))
word_is_one text first second (other_word no_letter no_numeral) (name none letter) = absurd (false≢true (sym no_letter ∙ letter))
word_is_one text first second (other_word no_letter no_numeral) (digits numeral) = absurd (no_numeral numeral)
word_is_one text first second (other_word no_letter no_numeral) (other_word no_letter' no_numeral') = refl

begins_continues : (byte : ℕ) → begins_word byte ≡ true → continues_word byte ≡ true
begins_continues byte is = rw is refl

-- a word is of bytes with which words go on
pub word_passes : (text : List ℕ) → IsWord text → AllPass continues_word text
word_passes [] is = absurd is
word_passes (x ∷ xs) is = All-cons (λ byte. continues_word byte ≡ true) x xs (begins_continues x is.0) is.1

abbrev sign_of : ℕ → Sign
sign_of byte = cond (byte == 59) sign.Semicolon (cond (byte == 58) sign.Colon (cond (byte == 44) sign.Comma (cond (byte == 46) sign.Dot (cond (byte == 61) sign.Equals (cond (byte == 63) sign.Question (cond (byte == 40) sign.Open (cond (byte == 41) sign.Close (cond (byte == 91) sign.OpenBracket (cond (byte == 93) sign.CloseBracket (sign.Request))))))))))

sign_first : (sign : Sign) (rest : List ℕ) → sign_of (get_or (sign_text sign ++ rest) 0 0) ≡ sign
sign_first sign.Semicolon rest = refl
sign_first sign.Colon rest = refl
sign_first sign.Comma rest = refl
sign_first sign.Dot rest = refl
sign_first sign.Equals rest = refl
sign_first sign.Question rest = refl
sign_first sign.Open rest = refl
sign_first sign.Close rest = refl
sign_first sign.OpenBracket rest = refl
sign_first sign.CloseBracket rest = refl
sign_first sign.Request rest = refl

tail_of : (xs ys : List ℕ) → 34 ∷ xs ≡ 34 ∷ ys → xs ≡ ys
tail_of xs ys same = cc

token_same : (text other : List ℕ) (token others : Token) (rest behind : List ℕ) → text ++ rest ≡ other ++ behind → IsToken text token rest → IsToken other others behind → (token ≡ others) × (rest ≡ behind)
token_same text other token others rest behind same (word x xs k is stops kind) (word y ys l is' stops' kind') =
    let one = longest_is_one continues_word text other rest behind same (record { passes = word_passes text is; stops = stops }) (record { passes = word_passes other is'; stops = stops' }) in
    (word_is_one text token others kind (rw one.0 kind'), one.1)
token_same text other token others rest behind same (word x xs k is stops kind) (quoted inner ys passes) =
    let first = class_of_first text rest is in let e = ap (λ zs. class (get_or zs 0 0)) same in absurd (cc)
token_same text other token others rest behind same (word x xs k is stops kind) (sign_token s ys) =
    let first = class_of_first text rest is in let second = class_of_sign s behind in let e = ap (λ zs. class (get_or zs 0 0)) same in absurd (cc)
token_same text other token others rest behind same (quoted inner xs passes) (word y ys l is' stops' kind') =
    let second = class_of_first other behind is' in let e = ap (λ zs. class (get_or zs 0 0)) same in absurd (cc)
token_same text other token others rest behind same (quoted inner xs passes) (quoted inner' ys passes') =
    let tail : inner ++ 34 ∷ rest ≡ inner' ++ 34 ∷ behind = tail_of _ _ (sym (quoted_text inner rest) ∙ (same ∙ quoted_text inner' behind)) in
    let one = longest_is_one is_quotable inner inner' (34 ∷ rest) (34 ∷ behind) tail (record { passes = passes; stops = refl }) (record { passes = passes'; stops = refl }) in
    (ap variant.Quoted one.0, tail_of _ _ one.1)
token_same text other token others rest behind same (quoted inner xs passes) (sign_token s ys) =
    let second = class_of_sign s behind in let e = ap (λ zs. class (get_or zs 0 0)) same in absurd (cc)
token_same text other token others rest behind same (sign_token r xs) (word y ys l is' stops' kind') =
    let first = class_of_sign r rest in let second = class_of_first other behind is' in let e = ap (λ zs. class (get_or zs 0 0)) same in absurd (cc)
token_same text other token others rest behind same (sign_token r xs) (quoted inner ys passes) =
    let first = class_of_sign r rest in let e = ap (λ zs. class (get_or zs 0 0)) same in absurd (cc)
token_same text other token others rest behind same (sign_token r xs) (sign_token s ys) =
    let e : r ≡ s = sym (sign_first r rest) ∙ (ap (λ zs. sign_of (get_or zs 0 0)) same ∙ sign_first s behind) in
    (ap variant.Sign e, append_cancel_left (sign_text s) rest behind (let P : Sign → Type 0 = λ z. sign_text z ++ rest ≡ sign_text s ++ behind in subst P e same))

-- a text begins with one token at most
pub token_is_one : (bytes text other : List ℕ) (token others : Token) (rest behind : List ℕ) → BeginsToken bytes text token rest → BeginsToken bytes other others behind → (token ≡ others) × (rest ≡ behind)
token_is_one bytes text other token others rest behind first second = token_same text other token others rest behind (sym first.whole ∙ second.whole) first.is second.is

-- Numerals, and numbers between two.
use Rattle.std.proofs.Common.{◌≡◌, ℕ, ◌<◌, ◌≤◌, ◌^◌, ◌-◌, Bool, true, false, ◌&&◌, nat_le, nat_lt, List, [], ◌∷◌, refl, ap, arith}
use Rattle.std.proofs.lemmas.Bool.{and_from, and_left, and_right, leb-true, le-leb, ltb-true, ltb-false}
use Rattle.std.proofs.lemmas.Str.Parse.{tells_all_ascii_digits, numerals_by_value}
use Rattle.std.specs.Char.{is_ascii_digit}
use Rattle.std.specs.List.{list_all}
use Rattle.std.specs.Str.{all_ascii_digits}
use Rattle.std.specs.Str.Parse.{IsNumeral, AllDigits, digits_value}
use Rattle.query_lang.specs.Words.{is_numeral, is_number, number}

digits_all : (text : List ℕ) → all_ascii_digits text ≡ true → AllDigits 10 text
digits_all text e = (numerals_by_value (λ ds. all_ascii_digits ds ≡ true) tells_all_ascii_digits).to text e

all_digits : (text : List ℕ) → AllDigits 10 text → all_ascii_digits text ≡ true
all_digits text d = (numerals_by_value (λ ds. all_ascii_digits ds ≡ true) tells_all_ascii_digits).from text d

pub numeral_is : (text : List ℕ) → is_numeral text ≡ true → IsNumeral 10 text
numeral_is [] e = absurd (cc e)
numeral_is (c ∷ cs) e = (omega arith, digits_all (c ∷ cs) e)

is_one : (text : List ℕ) → IsNumeral 10 text → is_numeral text ≡ true
is_one [] i = let less = i.0 in absurd (omega arith)
is_one (c ∷ cs) i = all_digits (c ∷ cs) i.1

no_numeral : (text : List ℕ) (b : Bool) → is_numeral text ≡ b → (IsNumeral 10 text → ⊥) → is_numeral text ≡ false
no_numeral text true e none = absurd (none (numeral_is text e))
no_numeral text false e none = e

pub within : (low high n : ℕ) (text : List ℕ) → IsNumeral 10 text → n ≡ digits_value 10 text → low ≤ n → n ≤ high → is_number low high text ≡ true
within low high n text is e from to =
    let a : low ≤ number text = omega arith in
    let b : number text ≤ high = omega arith in
    and_from (is_numeral text) _ (is_one text is) (and_from _ _ (le-leb low (number text) a) (le-leb (number text) high b))

outside : (low high n : ℕ) (a b : Bool) → nat_le low n ≡ a → nat_le n high ≡ b → (low ≤ n → n ≤ high → ⊥) → (a && b) ≡ false
outside low high n true true e f out = absurd (out (leb-true low n e) (leb-true n high f))
outside low high n true false e f out = refl
outside low high n false b e f out = refl

pub beyond : (low high n : ℕ) (text : List ℕ) → n ≡ digits_value 10 text → (low ≤ n → n ≤ high → ⊥) → is_number low high text ≡ false
beyond low high n text e out =
    and_right (is_numeral text) (nat_le low (number text) && nat_le (number text) high)
    (outside low high (number text) (nat_le low (number text)) (nat_le (number text) high) refl refl (λ a b. out (omega arith) (omega arith)))

too_great : (low high : ℕ) (text : List ℕ) (b : Bool) → nat_le (number text) high ≡ b → high < 2 ^ 64 → 2 ^ 128 ≤ number text → b ≡ false
too_great low high text true e small great = let f = leb-true (number text) high e in absurd (omega arith)
too_great low high text false e small great = refl

at_least : (a b : ℕ) (c : Bool) → nat_lt a b ≡ c → (a < b → ⊥) → b ≤ a
at_least a b true e none = absurd (none (ltb-true a b e))
at_least a b false e none = ltb-false a b e

none_here : (low high : ℕ) (text : List ℕ) (b : Bool) → is_numeral text ≡ b → high < 2 ^ 64 → (IsNumeral 10 text × (digits_value 10 text < 2 ^ 128) → ⊥) → is_number low high text ≡ false
none_here low high text true e small none =
    let numeral = numeral_is text e in
    let great : 2 ^ 128 ≤ number text = at_least (number text) (2 ^ 128) (nat_lt (number text) (2 ^ 128)) refl (λ less. none (numeral, less)) in
    and_right (is_numeral text) _ (and_right (nat_le low (number text)) _ (too_great low high text (nat_le (number text) high) refl small great))
none_here low high text false e small none = and_left (is_numeral text) _ e

pub no_number : (low high : ℕ) (text : List ℕ) → high < 2 ^ 64 → (IsNumeral 10 text × (digits_value 10 text < 2 ^ 128) → ⊥) → is_number low high text ≡ false
no_number low high text small none = none_here low high text (is_numeral text) refl small none

pub whole : (n : ℕ) (text : List ℕ) → IsNumeral 10 text → n ≡ digits_value 10 text → digits_value 10 text < 2 ^ 128 → is_number 0 (2 ^ 128 - 1) text ≡ true
whole n text is e less = within 0 (2 ^ 128 - 1) n text is e (omega arith) (omega arith)

too_long : (text : List ℕ) (b : Bool) → nat_le (number text) (2 ^ 128 - 1) ≡ b → 2 ^ 128 ≤ number text → b ≡ false
too_long text true e great = let f = leb-true (number text) (2 ^ 128 - 1) e in absurd (omega arith)
too_long text false e great = refl

not_whole : (text : List ℕ) (b : Bool) → is_numeral text ≡ b → (IsNumeral 10 text × (digits_value 10 text < 2 ^ 128) → ⊥) → is_number 0 (2 ^ 128 - 1) text ≡ false
not_whole text true e none =
    let numeral = numeral_is text e in
    let great : 2 ^ 128 ≤ number text = at_least (number text) (2 ^ 128) (nat_lt (number text) (2 ^ 128)) refl (λ less. none (numeral, less)) in
    and_right (is_numeral text) _ (and_right (nat_le 0 (number text)) _ (too_long text (nat_le (number text) (2 ^ 128 - 1)) refl great))
not_whole text false e none = and_left (is_numeral text) _ e

pub no_whole : (text : List ℕ) → (IsNumeral 10 text × (digits_value 10 text < 2 ^ 128) → ⊥) → is_number 0 (2 ^ 128 - 1) text ≡ false
no_whole text none = not_whole text (is_numeral text) refl none

digits_by_test : (text : List ℕ) → all_ascii_digits text ≡ list_all is_ascii_digit text
digits_by_test [] = refl
digits_by_test (c ∷ cs) = ap (λ (b : Bool). is_ascii_digit c && b) (digits_by_test cs)

pub numeral_by_test : (text : List ℕ) → (text ≡ [] → ⊥) → is_numeral text ≡ list_all is_ascii_digit text
numeral_by_test [] some = absurd (some refl)
numeral_by_test (c ∷ cs) some = digits_by_test (c ∷ cs)

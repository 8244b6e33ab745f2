-- The decimal texts of numbers below 2^62.
use Rattle.std.proofs.Common.{◌≡◌, ℕ, ◌+◌, ◌^◌, ◌<◌, ◌≤◌, false, List, [], ◌∷◌, length, take, get_or, sym, ap, ◌∙◌, ◌⊎◌, inl, inr, arith}
use Rattle.std.specs.Char.{is_ascii_digit, digit_value}
use Rattle.std.specs.Fmt.{decimal}
use Rattle.std.specs.Str.Parse.{AllDigits, digits_value}
use Rattle.std.proofs.Math.Nat.{pow-le-pow_right}
use Rattle.std.proofs.lemmas.Fmt.{decimal_is_IsNumeral, decimal_digit, decimal_nonempty, decimal-digits_value, first_decimal, length-decimal-le}
use Rattle.std.proofs.lemmas.List.{length-take-le}
use Rattle.std.proofs.lemmas.Int.Digits.{digits_value-lt}
use Rattle.std.proofs.lemmas.Str.Parse.{IsNumeralModel, digit_at, numerals_by_value, tells_digits}
use Rattle.std.proofs.lemmas.Bool.Decides.{nat_tests}
use Rattle.certificates.specs.Parts.Cuts.{IsFree}
use Rattle.certificates.specs.Parts.Entries.{IsNumber}
use Rattle.certificates.proofs.Cuts.{digits_are_free}

numerals : IsNumeralModel (AllDigits 10) (digits_value 10)
numerals = numerals_by_value _ tells_digits

-- what the digits of a number are
pub digits_of_number : (word : List ℕ) (n : ℕ) → IsNumber word n → AllDigits 10 word
digits_of_number word n is = let small = is.small in rw (is.text) (decimal_is_IsNumeral n (omega arith)).0.1

pub value_of_number : (word : List ℕ) (n : ℕ) → IsNumber word n → digits_value 10 word ≡ n
value_of_number word n is = let small = is.small in rw (is.text) (decimal_is_IsNumeral n (omega arith)).1

pub number_is_some : (word : List ℕ) (n : ℕ) → IsNumber word n → 0 < length word
number_is_some word n is = let small = is.small in rw (is.text) (decimal_nonempty n (omega arith))

pub number_is_short : (word : List ℕ) (n : ℕ) → IsNumber word n → length word ≤ 19
number_is_short word n is =
    let small = is.small in rw (is.text) (length-decimal-le 19 n (omega arith) (omega arith) (omega arith))

-- no zero stands in front of other digits
pub number_begins : (word : List ℕ) (n : ℕ) → IsNumber word n → 1 < length word → get_or word 0 0 ≡ 48 → ⊥
number_begins word n is long zero =
    let small = is.small in
    elim (none_or_some n) [
      | inl none ↦ let one : decimal n ≡ (48 + n) ∷ [] = decimal_digit n (omega arith) in
          absurd (omega (arith, ap length (is.text ∙ one)))
      | inr some ↦ absurd (omega (arith, first_decimal n some (omega arith), ap (λ (w : List ℕ). get_or w 0 0) (is.text)))
    ]
  where
    none_or_some : (n : ℕ) → (n ≡ 0) ⊎ (0 < n)
    none_or_some n = search (arith)

-- the digits of a number, without a zero in front of others, are its text
pub number_from_digits : (word : List ℕ) → 0 < length word → AllDigits 10 word → (1 < length word → get_or word 0 0 ≡ 48 → ⊥) → digits_value 10 word < 2 ^ 62 → IsNumber word (digits_value 10 word)
number_from_digits word some digits begins small = record {
  small = small;
  text = sym (decimal-digits_value numerals word digits some (λ zero. single (λ long. begins long zero)) (omega arith));
}
  where
    single : (1 < length word → ⊥) → length word ≡ 1
    single short = omega (arith, λ (long : 1 < length word). short long)

-- the first digits of a text of at most 19 are far from the end of 64 bits
pub front_is_small : (text : List ℕ) (i : ℕ) → AllDigits 10 (take i text) → i < length text → length text ≤ 19 → digits_value 10 (take i text) < 10 ^ 18
front_is_small text i digits inside few =
    let long : length (take i text) ≡ i = length-take-le i text (omega arith) in
    let below = digits_value-lt 10 (take i text) digits in
    let most : 10 ^ i ≤ 10 ^ 18 = pow-le-pow_right {n = 10} (omega arith) {i = i} {j = 18} (omega arith) in
    omega (arith, most, rw long at below)

-- a text with a byte that is no digit is no number
pub no_digit_in_number : (text : List ℕ) (i : ℕ) → i < length text → is_ascii_digit (get_or text i 0) ≡ false → (n : ℕ) → IsNumber text n → ⊥
no_digit_in_number text i inside no_digit n is =
    let digit = digit_at text i (digits_of_number text n is) inside in
    absurd (grind (arith, nat_tests))

pub number_is_free : (byte n : ℕ) → 10 ≤ digit_value byte → n < 2 ^ 62 → IsFree byte (decimal n)
number_is_free byte n other small = digits_are_free byte other (decimal n) (decimal_is_IsNumeral n (omega arith)).0.1

pub number_is_one : (word : List ℕ) (m n : ℕ) → IsNumber word m → IsNumber word n → m ≡ n
number_is_one word m n first second = sym (value_of_number word m first) ∙ value_of_number word n second

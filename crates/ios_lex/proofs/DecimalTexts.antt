-- Decimal texts.
use Rattle.std.proofs.Common.{◌≡◌, ℕ, ◌^◌, ◌<◌, ◌≤◌, false, List, length, take, get_or, sym, ◌∙◌, arith}
use Rattle.std.specs.Char.{is_ascii_digit}
use Rattle.std.specs.Fmt.{decimal}
use Rattle.std.specs.Str.Parse.{AllDigits, digits_value}
use Rattle.std.proofs.Math.Nat.{pow-le-pow_right}
use Rattle.std.proofs.lemmas.Fmt.{decimal_is_IsNumeral, length-decimal-le}
use Rattle.std.proofs.lemmas.List.{length-take-le}
use Rattle.std.proofs.lemmas.Int.Digits.{digits_value-lt}
use Rattle.std.proofs.lemmas.Str.Parse.{digit_at}
use Rattle.std.proofs.lemmas.Bool.Decides.{nat_tests}
use Rattle.ios_lex.specs.Decimal.{IsDecimal, IsNumber, IsByte}

-- the first digits of a text of at most 18 are far from the end of 64 bits
pub front_is_small : (text : List ℕ) (i : ℕ) → AllDigits 10 (take i text) → i < length text → length text ≤ 18 → digits_value 10 (take i text) < 10 ^ 17
front_is_small text i digits inside few =
    let long : length (take i text) ≡ i = length-take-le i text (omega arith) in
    let below = digits_value-lt 10 (take i text) digits in
    let most : 10 ^ i ≤ 10 ^ 17 = pow-le-pow_right {n = 10} (omega arith) {i = i} {j = 17} (omega arith) in
    omega (arith, most, rw long at below)

-- a text with a byte that is no digit is no decimal
pub no_digit_in_decimal : (most : ℕ) (text : List ℕ) (i : ℕ) → i < length text → is_ascii_digit (get_or text i 0) ≡ false → (n : ℕ) → IsDecimal most text n → ⊥
no_digit_in_decimal most text i inside no_digit n decimal =
    let digit = digit_at text i decimal.digits.1 inside in
    absurd (grind (arith, nat_tests))

-- a text is a decimal of one number
pub decimal_is_one : (most : ℕ) (text : List ℕ) (m n : ℕ) → IsDecimal most text m → IsDecimal most text n → m ≡ n
decimal_is_one most text m n first second = first.value ∙ sym second.value

-- a number is spelled by its decimal digits
decimal_spelled : (most n : ℕ) → 0 < most → n < 2 ^ 64 → n < 10 ^ most → IsDecimal most (decimal n) n
decimal_spelled most n some fits small =
    let numeral = decimal_is_IsNumeral n fits in
    record {
      digits = numeral.0;
      few = length-decimal-le most n some small fits;
      value = sym numeral.1;
    }

pub decimal_number : (max n : ℕ) → n < 10 ^ 10 → n ≤ max → IsNumber max (decimal n) n
decimal_number max n small within = record { decimal = decimal_spelled 10 n (omega arith) (omega arith) small; within = within }

pub decimal_byte : (n : ℕ) → n ≤ 255 → IsByte (decimal n) n
decimal_byte n within = record { decimal = decimal_spelled 3 n (omega arith) (omega arith) (omega arith); within = within }

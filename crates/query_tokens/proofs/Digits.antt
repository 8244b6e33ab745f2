-- Texts of decimal digits.
use Rattle.std.proofs.Common.{◌≡◌, ◌↔◌, ℕ, ◌<◌, Bool, true, false, ◌&&◌, IsTrue, List, [], ◌∷◌, length, refl, sym, ◌∙◌, arith, rules}
use Rattle.std.specs.Char.{digit_value, is_ascii_digit}
use Rattle.std.specs.List.{list_all}
use Rattle.std.specs.Str.Parse.{AllDigits, IsNumeral}
use Rattle.std.proofs.lemmas.Bool.Decides.{nat_tests}
use Rattle.std.proofs.lemmas.Str.Parse.{digit_from_value}

digit_from_test : (c : ℕ) → is_ascii_digit c ≡ true → digit_value c < 10
digit_from_test c test = grind (arith, nat_tests)

test_from_digit : (c : ℕ) → digit_value c < 10 → is_ascii_digit c ≡ true
test_from_digit c digit = let range = digit_from_value c digit in grind (arith, nat_tests)

digits_more : (x : ℕ) (xs : List ℕ) (b : Bool) → is_ascii_digit x ≡ b → (list_all is_ascii_digit xs ≡ true → AllDigits 10 xs) → b && list_all is_ascii_digit xs ≡ true → AllDigits 10 (x ∷ xs)
digits_more x xs true digit more test = (digit_from_test x digit, more test)
digits_more x xs false digit more test = absurd (cc)

digits_from_test : (xs : List ℕ) → list_all is_ascii_digit xs ≡ true → AllDigits 10 xs
digits_from_test [] test = tt
digits_from_test (x ∷ xs) test = digits_more x xs (is_ascii_digit x) refl (digits_from_test xs) test

test_from_digits : (xs : List ℕ) → AllDigits 10 xs → list_all is_ascii_digit xs ≡ true
test_from_digits [] digits = refl
test_from_digits (x ∷ xs) digits = rw (test_from_digit x digits.0) (test_from_digits xs digits.1)

-- a test of each byte says whether the text is a numeral
pub numeral_test : (xs : List ℕ) (r : Bool) → 0 < length xs → r ≡ list_all is_ascii_digit xs → IsTrue r ↔ IsNumeral 10 xs
numeral_test xs r some same = (λ yes. (some, digits_from_test xs (sym same ∙ (search rules))), λ numeral. let all : r ≡ true = same ∙ test_from_digits xs numeral.1 in search rules)

-- Words of printed bytes, numbers and addresses among them.
use Rattle.std.proofs.Common.{◌≡◌, ℕ, ◌/◌, ◌%◌, ◌^◌, ◌<◌, ◌≤◌, ◌==◌, ◌&&◌, nat_le, not, Bool, true, List, [], ◌∷◌, ◌++◌, length, refl, ◌∙◌, length-append, arith}
use Rattle.std.specs.Fmt.{decimal}
use Rattle.std.specs.List.{list_all}
use Rattle.std.specs.Str.Parse.{AllDigits}
use Rattle.std.proofs.lemmas.Bool.{and_parts, and_from, le-leb, ne_eqb}
use Rattle.std.proofs.lemmas.Fmt.{decimal_is_IsNumeral, decimal_nonempty}
use Rattle.std.proofs.lemmas.List.Folds.{list_all-append}
use Rattle.std.proofs.lemmas.Str.Parse.{digit_from_value}
use Rattle.ios_lex.specs.Address.{dotted}

abbrev pub is_printed : ℕ → Bool
is_printed byte = nat_le 33 byte && nat_le byte 126

-- at least one byte, and printed ones alone
abbrev pub is_plain : List ℕ → Bool
is_plain word = not (length word == 0) && list_all is_printed word

some_bytes : (word : List ℕ) → not (length word == 0) ≡ true → 0 < length word
some_bytes [] some = absurd (cc)
some_bytes (x ∷ xs) some = omega arith

pub plain_some : (word : List ℕ) → is_plain word ≡ true → 0 < length word
plain_some word plain = some_bytes word (and_parts (not (length word == 0)) (list_all is_printed word) plain).0

pub plain_printed : (word : List ℕ) → is_plain word ≡ true → list_all is_printed word ≡ true
plain_printed word plain = (and_parts (not (length word == 0)) (list_all is_printed word) plain).1

not_none : (word : List ℕ) → 0 < length word → not (length word == 0) ≡ true
not_none word some = rw (ne_eqb (length word) 0 (λ same. omega (arith, same))) refl

pub plain_from : (word : List ℕ) → 0 < length word → list_all is_printed word ≡ true → is_plain word ≡ true
plain_from word some printed = and_from (not (length word == 0)) (list_all is_printed word) (not_none word some) printed

pub printed_byte : (byte : ℕ) → 33 ≤ byte → byte ≤ 126 → is_printed byte ≡ true
printed_byte byte low high = and_from (nat_le 33 byte) (nat_le byte 126) (le-leb 33 byte low) (le-leb byte 126 high)

digits_printed : (text : List ℕ) → AllDigits 10 text → list_all is_printed text ≡ true
digits_printed [] digits = refl
digits_printed (x ∷ xs) digits =
    let digit = digit_from_value x digits.0 in
    and_from (is_printed x) (list_all is_printed xs) (printed_byte x (omega (arith, digit.0)) (omega (arith, digit.1))) (digits_printed xs digits.1)

decimal_printed : (n : ℕ) → n < 2 ^ 64 → list_all is_printed (decimal n) ≡ true
decimal_printed n small = digits_printed (decimal n) (decimal_is_IsNumeral n small).0.1

pub decimal_plain : (n : ℕ) → n < 2 ^ 64 → is_plain (decimal n) ≡ true
decimal_plain n small = plain_from (decimal n) (decimal_nonempty n small) (decimal_printed n small)

pub printed_append : (front back : List ℕ) → list_all is_printed front ≡ true → list_all is_printed back ≡ true → list_all is_printed (front ++ back) ≡ true
printed_append front back first second =
    list_all-append is_printed front back ∙ and_from (list_all is_printed front) (list_all is_printed back) first second

append_some : (front back : List ℕ) → 0 < length front → 0 < length (front ++ back)
append_some front back some = omega (arith, some, length-append front back)

pub dotted_plain : (n : ℕ) → n < 2 ^ 32 → is_plain (dotted n) ≡ true
unfolding dotted
dotted_plain n small =
    plain_from (dotted n) some
    (printed_append (decimal (n / 2 ^ 24)) _ (decimal_printed (n / 2 ^ 24) (omega arith))
    (printed_append (decimal (n / 2 ^ 16 % 256)) _ (decimal_printed (n / 2 ^ 16 % 256) (omega arith))
    (printed_append (decimal (n / 2 ^ 8 % 256)) _ (decimal_printed (n / 2 ^ 8 % 256) (omega arith))
    (decimal_printed (n % 256) (omega arith)))))
  where
    some : 0 < length (dotted n)
    some = append_some (decimal (n / 2 ^ 24)) _ (decimal_nonempty (n / 2 ^ 24) (omega arith))

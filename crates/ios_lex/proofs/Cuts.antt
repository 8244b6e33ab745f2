-- A text has one cut at a byte.
use Rattle.std.proofs.Common.{◌≡◌, ℕ, ◌<◌, ◌≤◌, ◌==◌, false, List, [], ◌∷◌, ◌++◌, refl, ap, arith}
use Rattle.std.specs.Char.{digit_value}
use Rattle.std.specs.List.{list_any}
use Rattle.std.specs.Str.Parse.{AllDigits}
use Rattle.std.proofs.lemmas.Bool.{or_parts, or_from, eqb-false, ne_eqb}
use Rattle.ios_lex.specs.Cut.{IsFree}

-- a text that begins with the byte is not free of it
begins_with_byte : (byte x : ℕ) (bytes : List ℕ) → x ≡ byte → IsFree byte (x ∷ bytes) → ⊥
begins_with_byte byte x bytes same free = eqb-false x byte (or_parts (x == byte) (list_any (λ b. b == byte) bytes) free).0 same

tail_is_free : (byte x : ℕ) (bytes : List ℕ) → IsFree byte (x ∷ bytes) → IsFree byte bytes
tail_is_free byte x bytes free = (or_parts (x == byte) (list_any (λ b. b == byte) bytes) free).1

-- two cuts of one text at a byte are the same cut
pub cut_is_one : (byte : ℕ) (front rest front' rest' : List ℕ) → IsFree byte front → IsFree byte front' → front ++ byte ∷ rest ≡ front' ++ byte ∷ rest' → (front ≡ front') × (rest ≡ rest')
cut_is_one byte [] rest [] rest' free free' same = (refl, cc)
cut_is_one byte [] rest (y ∷ ys) rest' free free' same = absurd (begins_with_byte byte y ys (cc) free')
cut_is_one byte (x ∷ xs) rest [] rest' free free' same = absurd (begins_with_byte byte x xs (cc) free)
cut_is_one byte (x ∷ xs) rest (y ∷ ys) rest' free free' same =
    let tails : xs ++ byte ∷ rest ≡ ys ++ byte ∷ rest' = cc in
    let parts = cut_is_one byte xs rest ys rest' (tail_is_free byte x xs free) (tail_is_free byte y ys free') tails in
    (cc, parts.1)

-- a text with a cut is not free of the byte
pub cut_is_not_free : (byte : ℕ) (front rest : List ℕ) → IsFree byte (front ++ byte ∷ rest) → ⊥
cut_is_not_free byte [] rest free = begins_with_byte byte byte rest refl free
cut_is_not_free byte (x ∷ xs) rest free = cut_is_not_free byte xs rest (tail_is_free byte x (xs ++ byte ∷ rest) free)

-- digits are free of a byte that is no digit
pub digits_are_free : (byte : ℕ) → 10 ≤ digit_value byte → (text : List ℕ) → AllDigits 10 text → IsFree byte text
digits_are_free byte other [] digits = refl
digits_are_free byte other (x ∷ xs) digits =
    or_from (x == byte) (list_any (λ b. b == byte) xs) (differs x byte other digits.0) (digits_are_free byte other xs digits.1)
  where
    differs : (x byte : ℕ) → 10 ≤ digit_value byte → digit_value x < 10 → (x == byte) ≡ false
    differs x byte other digit = ne_eqb x byte (λ same. omega (arith, ap digit_value same))

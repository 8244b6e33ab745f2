-- A text has one cut at a byte.
use Rattle.std.proofs.Common.{◌≡◌, ℕ, ◌≤◌, ◌==◌, false, List, [], ◌∷◌, ◌++◌, refl, ap, arith}
use Rattle.std.specs.Char.{digit_value}
use Rattle.std.specs.List.{All, list_any}
use Rattle.std.specs.Str.Parse.{AllDigits}
use Rattle.std.proofs.lemmas.Bool.{or_parts, or_from, eqb-false, ne_eqb}
use Rattle.std.proofs.lemmas.List.Elements.{All-nil, All-cons}
use Rattle.certificates.specs.Parts.Cuts.{IsFree}

not_free_first : (byte x : ℕ) (bytes : List ℕ) → x ≡ byte → IsFree byte (x ∷ bytes) → ⊥
not_free_first byte x bytes same free =
    eqb-false x byte (or_parts (x == byte) (list_any (λ b. b == byte) bytes) free).0 same

free_rest : (byte x : ℕ) (bytes : List ℕ) → IsFree byte (x ∷ bytes) → IsFree byte bytes
free_rest byte x bytes free = (or_parts (x == byte) (list_any (λ b. b == byte) bytes) free).1

-- two cuts of one text at a byte are the same cut
pub cut_is_one : (byte : ℕ) (front rest front' rest' : List ℕ) → IsFree byte front → IsFree byte front' → front ++ byte ∷ rest ≡ front' ++ byte ∷ rest' → (front ≡ front') × (rest ≡ rest')
cut_is_one byte [] rest [] rest' free free' same = (refl, cc)
cut_is_one byte [] rest (y ∷ ys) rest' free free' same = absurd (not_free_first byte y ys (cc) free')
cut_is_one byte (x ∷ xs) rest [] rest' free free' same = absurd (not_free_first byte x xs (cc) free)
cut_is_one byte (x ∷ xs) rest (y ∷ ys) rest' free free' same =
    let tails : xs ++ byte ∷ rest ≡ ys ++ byte ∷ rest' = cc in
    let parts = cut_is_one byte xs rest ys rest' (free_rest byte x xs free) (free_rest byte y ys free') tails in
    (cc, parts.1)

-- a text with a cut is not free of the byte
pub cut_is_not_free : (byte : ℕ) (text front rest : List ℕ) → IsFree byte text → text ≡ front ++ byte ∷ rest → ⊥
cut_is_not_free byte [] [] rest free same = cc
cut_is_not_free byte [] (y ∷ ys) rest free same = cc
cut_is_not_free byte (x ∷ xs) [] rest free same = not_free_first byte x xs (cc) free
cut_is_not_free byte (x ∷ xs) (y ∷ ys) rest free same = cut_is_not_free byte xs ys rest (free_rest byte x xs free) (cc)

pub free_append : (byte : ℕ) (xs ys : List ℕ) → IsFree byte xs → IsFree byte ys → IsFree byte (xs ++ ys)
free_append byte [] ys free free' = free'
free_append byte (x ∷ xs) ys free free' =
    let parts = or_parts (x == byte) (list_any (λ b. b == byte) xs) free in
    or_from (x == byte) (list_any (λ b. b == byte) (xs ++ ys)) parts.0 (free_append byte xs ys parts.1 free')

pub all_differ : (byte : ℕ) (text : List ℕ) → IsFree byte text → All (λ b. (b == byte) ≡ false) text
all_differ byte [] free = All-nil (λ (b : ℕ). (b == byte) ≡ false)
all_differ byte (x ∷ xs) free =
    let parts = or_parts (x == byte) (list_any (λ b. b == byte) xs) free in
    All-cons (λ (b : ℕ). (b == byte) ≡ false) x xs parts.0 (all_differ byte xs parts.1)

-- digits are free of a byte that is none
pub digits_are_free : (byte : ℕ) → 10 ≤ digit_value byte → (text : List ℕ) → AllDigits 10 text → IsFree byte text
digits_are_free byte other [] digits = refl
digits_are_free byte other (x ∷ xs) digits =
    or_from (x == byte) (list_any (λ b. b == byte) xs) (ne_eqb x byte (λ same. omega (arith, ap digit_value same, digits.0))) (digits_are_free byte other xs digits.1)

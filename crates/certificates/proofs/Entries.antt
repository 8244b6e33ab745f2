-- Numbers of clauses and literals as entries of lists.
use Rattle.std.proofs.Common.{◌≡◌, ℕ, ◌+◌, ◌^◌, ◌<◌, ◌≤◌, Bool, true, false, List, [], ◌∷◌, ◌++◌, length, get_or, refl, sym, ap, ◌∙◌, arith, rules}
use Rattle.std.specs.Char.{digit_value}
use Rattle.std.specs.Fmt.{decimal}
use Rattle.std.specs.Str.Parse.{AllDigits}
use Rattle.std.proofs.lemmas.Fmt.{decimal_injective, decimal_nonempty, decimal_is_IsNumeral, first_decimal}
use Rattle.cnf.specs.declared.lit.Lit.{Lit}
use Rattle.certificates.specs.Writable.{IsWritableNumber}
use Rattle.certificates.specs.Text.{minus, lit_text}
use Rattle.certificates.specs.Parts.Cuts.{IsFree}
use Rattle.certificates.specs.Parts.Entries.{IsNumber, IsWritableLit}
use Rattle.certificates.proofs.Cuts.{free_append}
use Rattle.certificates.proofs.Decimals.{digits_of_number, number_is_free}
use Rattle.certificates.proofs.Listed.{AreEntries}

first_of : (xs rest rest' : List ℕ) (x : ℕ) → 0 < length xs → xs ++ rest ≡ x ∷ rest' → get_or xs 0 0 ≡ x
first_of [] rest rest' x some same = absurd (omega arith)
first_of (y ∷ ys) rest rest' x some same = cc

-- a number from 1 begins with a digit from 1 to 9
pub digit_first : (n : ℕ) (rest rest' : List ℕ) (x : ℕ) → 1 ≤ n → n < 2 ^ 62 → decimal n ++ rest ≡ x ∷ rest' → 48 < x
digit_first n rest rest' x some small same =
    omega (arith, first_of (decimal n) rest rest' x (decimal_nonempty n (omega arith)) same, first_decimal n (omega arith) (omega arith))

pub digit_value_first : (n : ℕ) (rest rest' : List ℕ) (x : ℕ) → n < 2 ^ 62 → decimal n ++ rest ≡ x ∷ rest' → digit_value x < 10
digit_value_first n rest rest' x small same = head_is (decimal n) (decimal_nonempty n (omega arith)) (decimal_is_IsNumeral n (omega arith)).0.1 same
  where
    head_is : (xs : List ℕ) → 0 < length xs → AllDigits 10 xs → xs ++ rest ≡ x ∷ rest' → digit_value x < 10
    head_is [] some digits same = absurd (omega arith)
    head_is (y ∷ ys) some digits same = let is : y ≡ x = cc in rw is at digits.0

pub numbers_are_entries : AreEntries IsWritableNumber decimal
numbers_are_entries = record {
  free = λ n fits. number_is_free 32 n (search rules) fits.1;
  one = λ m n fits fits' same. let small = fits.1 in let small' = fits'.1 in decimal_injective m n (omega arith) (omega arith) same;
  begins = λ n rest rest' fits same. absurd (omega (arith, digit_first n rest rest' 48 fits.0 fits.1 same));
}

-- a word with a minus sign spells no number
pub sign_is_no_number : (digits : List ℕ) (n : ℕ) → IsNumber (45 ∷ digits) n → ⊥
sign_is_no_number digits n is = let digit = (digits_of_number (45 ∷ digits) n is).0 in absurd (omega arith)

-- the sign and the number are those of one literal
sign_and_number : (a b : Bool) (m n : ℕ) → m < 2 ^ 62 → n < 2 ^ 62 → minus a ++ decimal m ≡ minus b ++ decimal n → (a ≡ b) × (m ≡ n)
sign_and_number true true m n small small' same = (refl, decimal_injective m n (omega arith) (omega arith) (cc))
sign_and_number false false m n small small' same = (refl, decimal_injective m n (omega arith) (omega arith) same)
sign_and_number true false m n small small' same = absurd (sign_is_no_number (decimal m) n (record { small = small'; text = same }))
sign_and_number false true m n small small' same = absurd (sign_is_no_number (decimal n) m (record { small = small; text = sym same }))

lit_from_parts : (l k : Lit) → l.var ≡ k.var → l.negative ≡ k.negative → l ≡ k
lit_from_parts l k var negative =
    let lit : ℕ → Bool → Lit = λ v n. record { var = v; negative = n } in
    ap (λ v. lit v l.negative) var ∙ ap (λ n. lit k.var n) negative

pub lit_is_one : (l k : Lit) → IsWritableLit l → IsWritableLit k → lit_text l ≡ lit_text k → l ≡ k
unfolding lit_text
lit_is_one l k fits fits' same =
    let ones = sign_and_number l.negative k.negative (l.var + 1) (k.var + 1) fits fits' same in
    lit_from_parts l k (omega (arith, ones.1)) ones.0

-- what a literal's text is, by its sign
pub lit_spelled : (l : Lit) (negative : Bool) (word digits : List ℕ) → l.negative ≡ negative → word ≡ minus negative ++ digits → IsNumber digits (l.var + 1) → IsWritableLit l × (word ≡ lit_text l)
unfolding lit_text
lit_spelled l negative word digits sign whole is = (is.small, whole ∙ (rw (sign, is.text) refl))

-- a word that is a literal's text has a minus sign, or spells the number itself
pub lit_negative : (l : Lit) (digits : List ℕ) → IsWritableLit l → 45 ∷ digits ≡ lit_text l → IsNumber digits (l.var + 1)
unfolding lit_text
lit_negative l digits fits same = by_sign l.negative same
  where
    by_sign : (b : Bool) → 45 ∷ digits ≡ minus b ++ decimal (l.var + 1) → IsNumber digits (l.var + 1)
    by_sign true same = record { small = fits; text = cc }
    by_sign false same = absurd (sign_is_no_number digits (l.var + 1) (record { small = fits; text = same }))

pub lit_positive : (l : Lit) (word : List ℕ) → ((digits : List ℕ) → word ≡ 45 ∷ digits → ⊥) → IsWritableLit l → word ≡ lit_text l → IsNumber word (l.var + 1)
unfolding lit_text
lit_positive l word unsigned fits same = by_sign l.negative same
  where
    by_sign : (b : Bool) → word ≡ minus b ++ decimal (l.var + 1) → IsNumber word (l.var + 1)
    by_sign true same = absurd (unsigned (decimal (l.var + 1)) same)
    by_sign false same = record { small = fits; text = same }

pub lits_are_entries : AreEntries IsWritableLit lit_text
unfolding lit_text
lits_are_entries = record {
  free = λ l fits. free_append 32 (minus l.negative) (decimal (l.var + 1)) (minus_free l.negative) (number_is_free 32 (l.var + 1) (search rules) fits);
  one = lit_is_one;
  begins = λ l rest rest' fits same. begins l.negative (l.var + 1) rest rest' (omega arith) fits same;
}
  where
    minus_free : (b : Bool) → IsFree 32 (minus b)
    minus_free true = refl
    minus_free false = refl

    begins : (b : Bool) (n : ℕ) (rest rest' : List ℕ) → 1 ≤ n → n < 2 ^ 62 → (minus b ++ decimal n) ++ rest ≡ 48 ∷ rest' → ⊥
    begins true n rest rest' some small same = absurd (omega (arith, ap (λ (xs : List ℕ). get_or xs 0 0) same))
    begins false n rest rest' some small same = absurd (omega (arith, digit_first n rest rest' 48 some small same))

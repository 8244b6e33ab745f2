-- Numbers and their bits: the order of the numbers is that of the dictionary, and each number has its bits.
use Rattle.std.proofs.Common.{◌≡◌, ℕ, ◌+◌, ◌-◌, ◌*◌, ◌%◌, ◌^◌, ◌<◌, ◌≤◌, zero, suc, Bool, true, false, ◌==◌, if◌then◌else◌, List, [], ◌∷◌, length, refl, sym, ap, ap₂, ◌∙◌, arith, mul_comm, mod-eq_of_lt}
use Rattle.std.specs.Int.{bit_at}
use Rattle.std.proofs.Math.Nat.{pow-suc}
use Rattle.std.proofs.lemmas.Nat.{pow_pos}
use Rattle.std.proofs.lemmas.Nat.Bits.{bit_at-lt, bit_at_cat_high, bit_at_lowest}
use Rattle.cnf.specs.Order.{LexLe}
use Rattle.circuit.specs.Number.{number}
use Rattle.circuit.proofs.Agree.{digit, both_low, highest}
use lib.Arith.{mod-mul}

pub number-lt : (bits : List Bool) → number bits < 2 ^ length bits
number-lt [] = omega arith
number-lt (true ∷ bits) = omega (arith, number-lt bits, pow-suc 2 (length bits))
number-lt (false ∷ bits) = omega (arith, number-lt bits, pow-suc 2 (length bits))

suc_same : (m n : ℕ) → suc m ≡ suc n → m ≡ n
suc_same m n e = omega arith

-- the dictionary orders lists of one length as their numbers
pub number-le : (xs ys : List Bool) → length xs ≡ length ys → LexLe xs ys → number xs ≤ number ys
number-le [] ys e h = omega arith
number-le (x ∷ xs) [] e h = absurd h
number-le (false ∷ xs) (true ∷ ys) e h = omega (arith, number-lt xs, ap (λ n. 2 ^ n) (suc_same (length xs) (length ys) e))
number-le (true ∷ xs) (false ∷ ys) e h = absurd h
number-le (false ∷ xs) (false ∷ ys) e h = omega (arith, number-le xs ys (suc_same (length xs) (length ys) e) h)
number-le (true ∷ xs) (true ∷ ys) e h = omega (arith, number-le xs ys (suc_same (length xs) (length ys) e) h, ap (λ n. 2 ^ n) (suc_same (length xs) (length ys) e))

-- the lowest k bits of n, the highest of them first
abbrev pub bits_of : ℕ → ℕ → List Bool
bits_of zero n = []
bits_of (suc k) n = (bit_at n k == 1) ∷ bits_of k n

pub length-bits_of : (k n : ℕ) → length (bits_of k n) ≡ k
length-bits_of zero n = refl
length-bits_of (suc k) n = ap suc (length-bits_of k n)

first_digit : (d p : ℕ) → d < 2 → (if d == 1 then p else 0) ≡ d * p
first_digit zero p h = omega arith
first_digit (suc zero) p h = omega arith
first_digit (suc (suc d)) p h = absurd (omega arith)

pub number-bits_of_mod : (k n : ℕ) → number (bits_of k n) ≡ n % 2 ^ k
number-bits_of_mod zero n = omega arith
number-bits_of_mod (suc k) n =
    ap (λ j. (if bit_at n k == 1 then 2 ^ j else 0) + number (bits_of k n)) (length-bits_of k n)
    ∙ ap₂ ◌+◌ (first_digit (bit_at n k) (2 ^ k) (bit_at-lt n k)) (number-bits_of_mod k n)
    ∙ sym (ap (λ m. n % m) (pow-suc 2 k ∙ mul_comm (2 ^ k) 2) ∙ mod-mul n {m = 2} {c = 2 ^ k} (omega arith) (pow_pos k))

pub number-bits_of : (k n : ℕ) → n < 2 ^ k → number (bits_of k n) ≡ n
number-bits_of k n h = number-bits_of_mod k n ∙ mod-eq_of_lt h

-- the bits of a list's number, whatever stands above them
digit_is : (b : Bool) → (digit b == 1) ≡ b
digit_is true = refl
digit_is false = refl

first_bit : (h low k : ℕ) (b : Bool) → low < 2 ^ k → (bit_at ((2 * h + digit b) * 2 ^ k + low) k == 1) ≡ b
first_bit h low k b small =
    let none : k - k ≡ 0 = omega arith in
    let high : bit_at ((2 * h + digit b) * 2 ^ k + low) k ≡ bit_at (2 * h + digit b) (k - k) = bit_at_cat_high (2 * h + digit b) k low k small (omega arith) in
    ap (λ d. d == 1) (high ∙ ap (bit_at (2 * h + digit b)) none ∙ bit_at_lowest (2 * h + digit b) ∙ (both_low h 0 b).1) ∙ digit_is b

bits_of-high : (xs : List Bool) (h : ℕ) → bits_of (length xs) (h * 2 ^ length xs + number xs) ≡ xs
bits_of-high [] h = refl
bits_of-high (x ∷ xs) h =
    let k : ℕ = length xs in
    let low : ℕ = number xs in
    ap (λ p. bits_of (suc k) (h * p + ((if x then 2 ^ k else 0) + low))) (pow-suc 2 k)
    ∙ ap (bits_of (suc k)) (highest h (2 ^ k) low x)
    ∙ ap₂ ◌∷◌ (first_bit h low k x (number-lt xs)) (bits_of-high xs (2 * h + digit x))

pub bits_of-number : (xs : List Bool) → bits_of (length xs) (number xs) ≡ xs
bits_of-number xs =
    let whole : number xs ≡ 0 * 2 ^ length xs + number xs = omega arith in
    ap (bits_of (length xs)) whole ∙ bits_of-high xs 0

-- lists of one length that stand for the same number are the same
pub number-injective : (xs ys : List Bool) → length xs ≡ length ys → number xs ≡ number ys → xs ≡ ys
number-injective xs ys e same = sym (bits_of-number xs) ∙ ap₂ bits_of e same ∙ bits_of-number ys

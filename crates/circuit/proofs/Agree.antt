-- The wildcard test, bit by bit.
use Rattle.std.proofs.Common.{◌≡◌, ℕ, ◌+◌, ◌*◌, ◌/◌, ◌%◌, ◌^◌, ◌<◌, max, Bool, true, false, not, ◌&&◌, ◌||◌, ◌==◌, cond, eqb, List, [], ◌∷◌, length, map, refl, sym, ap, ◌∙◌, arith, zero, suc, if◌then◌else◌, bit_or, bit_xor}
use Rattle.std.specs.Int.{bit_at}
use Rattle.std.specs.Int.Bits.{or_step, xor_step, differ}
use Rattle.std.specs.List.{list_any, list_all}
use Rattle.std.proofs.lemmas.Bool.Decides.{nat_tests}
use Rattle.std.proofs.lemmas.List.{length-map}
use Rattle.std.proofs.lemmas.Nat.Bits.{bit_at-lt}
use Rattle.std.proofs.Math.Nat.{div-one, div-div-eq-div-mul, pow-suc}
use Rattle.bit_patterns.specs.Patterns.{agrees}
use Rattle.circuit.specs.Number.{number}
use Rattle.circuit.specs.Gates.{fixed_nodes}

abbrev pub digit : Bool → ℕ
digit true = 1
digit false = 0

low_bit : (b : Bool) (p q : ℕ) → p < 2 → q < 2 → eqb (max (differ (digit b) p) q) q ≡ ((q == 1) || (p == digit b))
low_bit true zero zero p q = refl
low_bit true zero (suc zero) p q = refl
low_bit true (suc zero) zero p q = refl
low_bit true (suc zero) (suc zero) p q = refl
low_bit false zero zero p q = refl
low_bit false zero (suc zero) p q = refl
low_bit false (suc zero) zero p q = refl
low_bit false (suc zero) (suc zero) p q = refl
low_bit b (suc (suc n)) q p h = absurd (omega arith)
low_bit b n (suc (suc m)) p h = absurd (omega arith)

differ-lt : (b : Bool) (p : ℕ) → p < 2 → differ (digit b) p < 2
differ-lt true zero p = omega arith
differ-lt true (suc zero) p = omega arith
differ-lt false zero p = omega arith
differ-lt false (suc zero) p = omega arith
differ-lt b (suc (suc n)) p = absurd (omega arith)

halves : (a b c d : ℕ) → b < 2 → d < 2 → eqb (a * 2 + b) (c * 2 + d) ≡ (eqb a c && eqb b d)
halves a b c d p q = grind (arith, nat_tests)

pub both_low : (h v : ℕ) (b : Bool) → ((2 * h + digit b) / 2 ≡ h) × ((2 * h + digit b) % 2 ≡ digit b)
both_low h v true = (omega arith, omega arith)
both_low h v false = (omega arith, omega arith)

-- a test of one bit more, at the low end
pub agrees_bit : (h v w : ℕ) (b : Bool) → agrees (2 * h + digit b) v w ≡ (agrees h (v / 2) (w / 2) && ((w % 2 == 1) || (v % 2 == digit b)))
agrees_bit h v w b =
    let x : ℕ = 2 * h + digit b in
    let e = both_low h v b in
    let d = differ-lt b (v % 2) (omega arith) in
    let r : ℕ = differ (digit b) (v % 2) in
    let y : ℕ = bit_xor h (v / 2) in
    let xor : bit_xor x v ≡ y * 2 + r = xor_step x v ∙ ap (λ n. bit_xor n (v / 2) * 2 + differ (x % 2) (v % 2)) e.0 ∙ ap (λ n. y * 2 + differ n (v % 2)) e.1 in
    let half : (y * 2 + r) / 2 ≡ y = omega arith in
    let low : (y * 2 + r) % 2 ≡ r = omega arith in
    let or : bit_or (y * 2 + r) w ≡ bit_or y (w / 2) * 2 + max r (w % 2) = or_step (y * 2 + r) w ∙ ap (λ n. bit_or n (w / 2) * 2 + max ((y * 2 + r) % 2) (w % 2)) half ∙ ap (λ n. bit_or y (w / 2) * 2 + max n (w % 2)) low in
    let whole : w ≡ (w / 2) * 2 + w % 2 = omega arith in
    ap (λ n. eqb (bit_or n w) w) xor
    ∙ ap (λ n. eqb n w) or
    ∙ ap (λ n. eqb (bit_or y (w / 2) * 2 + max r (w % 2)) n) whole
    ∙ halves (bit_or y (w / 2)) (max r (w % 2)) (w / 2) (w % 2) (omega arith) (omega arith)
    ∙ ap (λ t. eqb (bit_or y (w / 2)) (w / 2) && t) (low_bit b (v % 2) (w % 2) (omega arith) (omega arith))

-- what the highest bit adds to the tests of the lower ones: it is free, or it has to be one, or zero
first_test : (a x y b free one : Bool) →
    ((a && (free || cond b one (not one))) && (x && not y))
    ≡ (a && (cond (not free && one) (b && x) x && not (cond (not free && not one) (b || y) y)))
first_test false x y b free one = refl
first_test true x y b true one = refl
first_test true x y true false true = refl
first_test true true y true false false = refl
first_test true false y true false false = refl
first_test true x y false false true = refl
first_test true x y false false false = refl

first_bit : (a x y b : Bool) (p q : ℕ) → p < 2 → q < 2 →
    ((a && ((q == 1) || (p == digit b))) && (x && not y))
    ≡ (a && (cond ((q == 0) && (p == 1)) (b && x) x && not (cond ((q == 0) && (p == 0)) (b || y) y)))
first_bit a x y true zero zero h k = first_test a x y true false false
first_bit a x y true zero (suc zero) h k = first_test a x y true true false
first_bit a x y true (suc zero) zero h k = first_test a x y true false true
first_bit a x y true (suc zero) (suc zero) h k = first_test a x y true true true
first_bit a x y false zero zero h k = first_test a x y false false false
first_bit a x y false zero (suc zero) h k = first_test a x y false true false
first_bit a x y false (suc zero) zero h k = first_test a x y false false true
first_bit a x y false (suc zero) (suc zero) h k = first_test a x y false true true
first_bit a x y b (suc (suc n)) q h k = absurd (omega arith)
first_bit a x y b p (suc (suc n)) h k = absurd (omega arith)

all_cond : (f : ℕ → Bool) (t : Bool) (node : ℕ) (nodes : List ℕ) → list_all f (if t then node ∷ nodes else nodes) ≡ cond t (f node && list_all f nodes) (list_all f nodes)
all_cond f true node nodes = refl
all_cond f false node nodes = refl

any_cond : (f : ℕ → Bool) (t : Bool) (node : ℕ) (nodes : List ℕ) → list_any f (if t then node ∷ nodes else nodes) ≡ cond t (f node || list_any f nodes) (list_any f nodes)
any_cond f true node nodes = refl
any_cond f false node nodes = refl

and_true : (t : Bool) → (t && true) ≡ t
and_true true = refl
and_true false = refl

pub highest : (h p n : ℕ) (b : Bool) → h * (p * 2) + ((if b then p else 0) + n) ≡ (2 * h + digit b) * p + n
highest h p n true = omega arith
highest h p n false = omega arith

-- a number agrees where what stands above these bits does, and each of them that has to be one or zero is it
pub agrees-fixed : (f : ℕ → Bool) (nodes : List ℕ) (h v w : ℕ) →
    agrees (h * 2 ^ length nodes + number (map f nodes)) v w
    ≡ (agrees h (v / 2 ^ length nodes) (w / 2 ^ length nodes) && (list_all f (fixed_nodes nodes v w 1) && not (list_any f (fixed_nodes nodes v w 0))))
agrees-fixed f [] h v w =
    let x : h * 1 + 0 ≡ h = omega arith in
    ap (λ n. agrees n v w) x
    ∙ sym (ap (λ n. agrees h v n) (div-one w))
    ∙ sym (ap (λ n. agrees h n (w / 1)) (div-one v))
    ∙ sym (and_true (agrees h (v / 1) (w / 1)))
agrees-fixed f (node ∷ nodes) h v w =
    let n : ℕ = length nodes in
    let b : Bool = f node in
    let low : ℕ = number (map f nodes) in
    let ones : Bool = list_all f (fixed_nodes nodes v w 1) in
    let zeros : Bool = list_any f (fixed_nodes nodes v w 0) in
    let long : length (map f nodes) ≡ n = length-map nodes f in
    let value_of : ℕ → ℕ → ℕ = λ p q. h * p + ((if b then q else 0) + low) in
    ap (λ k. agrees (value_of (2 ^ suc n) (2 ^ k)) v w) long
    ∙ ap (λ k. agrees (value_of k (2 ^ n)) v w) (pow-suc 2 n)
    ∙ ap (λ k. agrees k v w) (highest h (2 ^ n) low b)
    ∙ agrees-fixed f nodes (2 * h + digit b) v w
    ∙ ap (λ t. t && (ones && not zeros)) (agrees_bit h (v / 2 ^ n) (w / 2 ^ n) b)
    ∙ ap (λ t. (t && ((bit_at w n == 1) || (bit_at v n == digit b))) && (ones && not zeros))
    (ap (λ k. agrees h k (w / 2 ^ n / 2)) (div-div-eq-div-mul v (2 ^ n) 2 ∙ ap (λ k. v / k) (sym (pow-suc 2 n)))
    ∙ ap (λ k. agrees h (v / 2 ^ suc n) k) (div-div-eq-div-mul w (2 ^ n) 2 ∙ ap (λ k. w / k) (sym (pow-suc 2 n))))
    ∙ first_bit (agrees h (v / 2 ^ suc n) (w / 2 ^ suc n)) ones zeros b (bit_at v n) (bit_at w n) (bit_at-lt v n) (bit_at-lt w n)
    ∙ ap (λ t. agrees h (v / 2 ^ suc n) (w / 2 ^ suc n) && (t && not (cond ((bit_at w n == 0) && (bit_at v n == 0)) (b || zeros) zeros)))
    (sym (all_cond f ((bit_at w n == 0) && (bit_at v n == 1)) node (fixed_nodes nodes v w 1)))
    ∙ ap (λ t. agrees h (v / 2 ^ suc n) (w / 2 ^ suc n) && (list_all f (fixed_nodes (node ∷ nodes) v w 1) && not t))
    (sym (any_cond f ((bit_at w n == 0) && (bit_at v n == 0)) node (fixed_nodes nodes v w 0)))

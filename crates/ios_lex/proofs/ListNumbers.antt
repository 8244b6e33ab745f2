-- Numbers as names of lists.
use Rattle.std.proofs.Common.{ℕ, ◌-◌, ◌^◌, ◌≤◌, List, length, arith}
use Rattle.std.proofs.Math.Nat.{pow-le-pow_right}
use Rattle.std.proofs.lemmas.Int.Digits.{digits_value-lt}
use Rattle.ios_lex.specs.Decimal.{IsNumber}
use Rattle.ios_lex.specs.ListNames.{IsListNumber}

-- ten digits are few enough for 64 bits
pub no_list_number : (name : List ℕ) → ((n : ℕ) → IsNumber (2 ^ 64 - 1) name n → ⊥) → (n : ℕ) → IsListNumber name n → ⊥
no_list_number name none n is =
    let below = digits_value-lt 10 name is.digits.1 in
    let most : 10 ^ length name ≤ 10 ^ 10 = pow-le-pow_right {n = 10} (omega arith) {i = length name} {j = 10} is.few in
    none n (record { decimal = is; within = omega (arith, is.value, below, most) })

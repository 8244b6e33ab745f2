use Rattle.std.proofs.Common.{◌≡◌, ℕ, ◌*◌, ◌/◌, ◌^◌, ◌<◌, ◌==◌, inl, inr, arith}
use Rattle.std.specs.Prelude.{nat_lt}
use Rattle.std.proofs.Math.Nat.{div-eq_of_lt, div-lt_iff_lt-mul}
use Rattle.std.proofs.lemmas.Bool.{cases_lt}
use Rattle.std.proofs.lemmas.Bool.Decides.{nat_tests}
use Rattle.std.proofs.lemmas.Nat.{pow_pos}
use Rattle.circuit.proofs.range.is_below.Goals as goal

by_quotient : (n p : ℕ) → 0 < p → (n / p == 0) ≡ nat_lt n p
by_quotient n p pos =
    elim (cases_lt n p) [
      | inl lt ↦ (let none : n / p ≡ 0 = div-eq_of_lt lt in grind (arith, nat_tests))
      | inr ge ↦ elim (cases_lt (n / p) 1) [
        | inl small ↦ (let lt : n < 1 * p = (div-lt_iff_lt-mul {k = p} {x = n} {y = 1} pos).0 small in absurd (omega arith))
        | inr some ↦ grind (arith, nat_tests)
      ]
    ]

pub returns : goal.returns
returns c = by_quotient c.args.value (2 ^ c.args.count) (pow_pos c.args.count)

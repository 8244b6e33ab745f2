-- Counts that go up several times.
use Rattle.std.proofs.Common.{◌≡◌, ℕ, zero, suc, ◌+◌, ◌-◌, ◌^◌, ◌≤◌, ◌<◌, min, refl, sym, ◌∙◌, subst, arith, add-suc, add-zero, suc-add, zero-add}
use Rattle.mg_outside.specs.Faults.{Counted, one_more}

-- first so many times, and then so many more
pub Counted-then : (a b x y z : ℕ) → Counted a x y → Counted b y z → Counted (a + b) x z
Counted-then zero b x y z first second = rw zero-add (subst (λ (w : ℕ). Counted b w z) first second)
Counted-then (suc a) b x y z first second = rw suc-add (Counted-then a b (one_more x) y z first second)

-- a count that is higher by so much, as far as it can be
pub Counted-min : (n x : ℕ) → x < 2 ^ 64 → Counted n x (min (x + n) (2 ^ 64 - 1))
Counted-min zero x small = omega arith
Counted-min (suc n) x small =
    let one : one_more x < 2 ^ 64 = omega arith in
    let same : min (one_more x + n) (2 ^ 64 - 1) ≡ min (x + suc n) (2 ^ 64 - 1) = omega arith in
    subst (λ (w : ℕ). Counted n (one_more x) w) same (Counted-min n (one_more x) one)

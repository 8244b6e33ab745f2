-- The clause of a number stands one place before it.
use Rattle.std.proofs.Common.{◌≡◌, ◌-◌, ◌<◌, ℕ, zero, suc, Option, Some, None, List, [], ◌∷◌, Bor, is_some, true, map, get_or, set, arith, ap, refl}
use Rattle.std.specs.Option.{option_copied}
use Rattle.cnf.specs.declared.lit.Lit.{Lit}
use Rattle.proof_check.specs.Derivations.{Live, live_at, without}

pub live_at-place : (live : Live) (number : ℕ) → 0 < number → live_at live number ≡ get_or live (number - 1) None
live_at-place live zero some = absurd (omega arith)
live_at-place live (suc n) some = let e : n ≡ suc n - 1 = omega arith in ap (λ k. get_or live k None) e

pub without-place : (live : Live) (number : ℕ) → 0 < number → without live number ≡ set live (number - 1) None
without-place live zero some = absurd (omega arith)
without-place live (suc n) some = let e : n ≡ suc n - 1 = omega arith in ap (λ k. set live k None) e

pub copied_at : {X : Type 0} (xs : List (Option (Bor X))) (i : ℕ) → option_copied (get_or xs i None) ≡ get_or (map option_copied xs) i None
copied_at [] i = refl
copied_at (x ∷ xs) zero = refl
copied_at (x ∷ xs) (suc i) = copied_at xs i

pub copied_set : {X : Type 0} (xs : List (Option (Bor X))) (i : ℕ) → map option_copied (set xs i None) ≡ set (map option_copied xs) i None
copied_set [] i = refl
copied_set (x ∷ xs) zero = refl
copied_set (x ∷ xs) (suc i) = ap (λ ys. option_copied x ∷ ys) (copied_set xs i)

-- a number that names a clause is not 0
pub number_of_some : (live : Live) (number : ℕ) (o : Option (Bor (List Lit))) → option_copied o ≡ live_at live number → is_some o ≡ true → 0 < number
number_of_some live zero None e some = absurd (cc)
number_of_some live zero (Some x) e some = absurd (cc)
number_of_some live (suc number) o e some = omega arith

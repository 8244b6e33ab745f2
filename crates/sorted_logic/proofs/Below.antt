-- Tests of each number below a number.
use Rattle.std.specs.Prelude.{◌≡◌, ℕ, zero, suc, ◌<◌, Bool, true, false, not, ◌&&◌, ◌||◌, ◌⊎◌, refl}
use Rattle.std.proofs.Common.{inl, inr, arith}
use Rattle.sorted_logic.specs.Inside.Evaluation.{all_below, any_below, agree}

pub both_true : (a b : Bool) → (a && b) ≡ true → (a ≡ true) × (b ≡ true)
both_true true b h = (refl, h)
both_true false b h = cc

pub one_false : (a b : Bool) → (a && b) ≡ false → (a ≡ false) ⊎ (b ≡ false)
one_false true b h = inr h
one_false false b h = inl refl

pub one_true : (a b : Bool) → (a || b) ≡ true → (a ≡ true) ⊎ (b ≡ true)
one_true true b h = inl refl
one_true false b h = inr h

pub both_false : (a b : Bool) → (a || b) ≡ false → (a ≡ false) × (b ≡ false)
both_false true b h = cc
both_false false b h = (refl, h)

pub not_true : (b : Bool) → not b ≡ true → b ≡ false
not_true true h = cc
not_true false h = refl

pub not_false : (b : Bool) → not b ≡ false → b ≡ true
not_false true h = refl
not_false false h = cc

and_false : (a b : Bool) → b ≡ false → (a && b) ≡ false
and_false true b h = h
and_false false b h = refl

or_true : (a b : Bool) → b ≡ true → (a || b) ≡ true
or_true true b h = refl
or_true false b h = h

split : (e n : ℕ) → e < suc n → (e ≡ n) ⊎ (e < n)
split e n h = grind arith

pub one_fails : (n : ℕ) (test : ℕ → Bool) (e : ℕ) → e < n → test e ≡ false → all_below n test ≡ false
one_fails zero test e l h = absurd (omega (arith, l))
one_fails (suc n) test e l h = elim (split e n l) [
  | inl q ↦ and_false (all_below n test) (test n) (rw (← q) h)
  | inr q ↦ rw (one_fails n test e q h) refl
]

pub one_passes : (n : ℕ) (test : ℕ → Bool) (e : ℕ) → e < n → test e ≡ true → any_below n test ≡ true
one_passes zero test e l h = absurd (omega (arith, l))
one_passes (suc n) test e l h = elim (split e n l) [
  | inl q ↦ or_true (any_below n test) (test n) (rw (← q) h)
  | inr q ↦ rw (one_passes n test e q h) refl
]

pub fails_at : (a b : Bool) → a ≡ true → b ≡ false → (not a || b) ≡ false
fails_at true b h k = k
fails_at false b h k = cc

pub passes_at : (a b : Bool) → a ≡ true → b ≡ true → (a && b) ≡ true
passes_at true b h k = k
passes_at false b h k = cc

pub each_passes : (n : ℕ) (test : ℕ → Bool) → all_below n test ≡ true → (e : ℕ) → e < n → test e ≡ true
each_passes zero test h e l = absurd (omega (arith, l))
each_passes (suc n) test h e l = let b : _ = both_true (all_below n test) (test n) h in elim (split e n l) [
  | inl q ↦ rw q b.1
  | inr q ↦ each_passes n test b.0 e q
]

pub some_fails : (n : ℕ) (test : ℕ → Bool) → all_below n test ≡ false → (e : ℕ) × (e < n) × (test e ≡ false)
some_fails zero test h = cc
some_fails (suc n) test h = elim (one_false (all_below n test) (test n) h) [
  | inl q ↦ let f : (e : ℕ) × (e < n) × (test e ≡ false) = some_fails n test q in (f.0, omega (arith, f.1), f.2)
  | inr q ↦ (n, omega arith, q)
]

pub some_passes : (n : ℕ) (test : ℕ → Bool) → any_below n test ≡ true → (e : ℕ) × (e < n) × (test e ≡ true)
some_passes zero test h = cc
some_passes (suc n) test h = elim (one_true (any_below n test) (test n) h) [
  | inl q ↦ let f : (e : ℕ) × (e < n) × (test e ≡ true) = some_passes n test q in (f.0, omega (arith, f.1), f.2)
  | inr q ↦ (n, omega arith, q)
]

pub each_fails : (n : ℕ) (test : ℕ → Bool) → any_below n test ≡ false → (e : ℕ) → e < n → test e ≡ false
each_fails zero test h e l = absurd (omega (arith, l))
each_fails (suc n) test h e l = let b : _ = both_false (any_below n test) (test n) h in elim (split e n l) [
  | inl q ↦ rw q b.1
  | inr q ↦ each_fails n test b.0 e q
]

-- a further part that agrees with what came before
pub agree_on : (even a rest : Bool) → agree (agree even a) rest ≡ agree even (agree a rest)
agree_on true a rest = refl
agree_on false true rest = refl
agree_on false false true = refl
agree_on false false false = refl

pub both_at : (a b : Bool) → a ≡ true → b ≡ true → not (a && b) ≡ false
both_at true true h k = refl
both_at true false h k = cc
both_at false b h k = cc

pub negated : (b : Bool) → b ≡ true → not b ≡ false
negated true h = refl
negated false h = cc

pub all_pass : (n : ℕ) (test : ℕ → Bool) → ((e : ℕ) → e < n → test e ≡ true) → all_below n test ≡ true
all_pass zero test h = refl
all_pass (suc n) test h = rw (all_pass n test (λ e l. h e (omega (arith, l))), h n (omega arith)) refl

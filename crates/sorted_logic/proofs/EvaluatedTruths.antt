-- Where each element is below a number, the test of each number below it is truth, and its failing is falsity.
use Rattle.std.specs.Prelude.{◌≡◌, ◌↔◌, ℕ, ◌<◌, Bool, true, false, not, ◌&&◌, ◌||◌, ◌⊎◌, List, [], ◌∷◌, ◌++◌, Option, Some, None, IsTrue, refl}
use Rattle.std.proofs.Common.{inl, inr, ltb-true}
use Rattle.sorted_logic.specs.Finite.{Table, answers}
use Rattle.sorted_logic.specs.Inside.Evaluation.{agree, evaluation}
use Rattle.sorted_logic.specs.Syntax.{PolicyAtom, FormulaTree, truth, falsity, negation, no_conjuncts, conjunct, no_disjuncts, disjunct, implication, no_equals, equals, for_all, there_is, same, in_sort, related, number_test, asks}
use Rattle.sorted_logic.specs.Truth.{IsAtom, AskedOf, values_of, no_policies, HasTruthValue}
use Rattle.sorted_logic.specs.Universe.{Universe}
use Rattle.sorted_logic.proofs.Below.{both_true, one_false, one_true, both_false, not_true, not_false, each_passes, some_fails, some_passes, each_fails}
use Rattle.sorted_logic.proofs.Truths.{not_both, none_contradict}

atom : (b value : Bool) → b ≡ value → IsAtom b value
atom b true h = h
atom b false h = h

asked : (a : PolicyAtom) (elements : Option (List ℕ)) (value : Bool) → false ≡ value → AskedOf no_policies a value elements
asked a None value h = atom false value h
asked a (Some elements) value h = atom false value h

implied : (a b : Bool) → (not a || b) ≡ true → a ≡ true → b ≡ true
implied true b h k = h
implied false b h k = cc

agree_true : (a b : Bool) → agree a b ≡ true → ((a ≡ true) × (b ≡ true)) ⊎ ((a ≡ false) × (b ≡ false))
agree_true true b h = inl (refl, h)
agree_true false b h = inr (refl, not_true b h)

agree_false : (a b : Bool) → agree a b ≡ false → ((a ≡ true) × (b ≡ false)) ⊎ ((a ≡ false) × (b ≡ true))
agree_false true b h = inl (refl, h)
agree_false false b h = inr (refl, not_false b h)

module _ (u : Universe) (n : ℕ) (bounded : (s e : ℕ) → IsTrue (u.has s e) → e < n) where
  pub evaluated : (f : FormulaTree) (value : Bool) (env : List ℕ) → evaluation u n f env ≡ value
      → HasTruthValue u no_policies f value env
  evaluated truth value env h = atom true value h
  evaluated falsity value env h = atom false value h
  evaluated (negation f) true env h = evaluated f false env (not_true _ h)
  evaluated (negation f) false env h = evaluated f true env (not_false _ h)
  evaluated no_conjuncts value env h = atom true value h
  evaluated (conjunct f parts) true env h = let b : _ = both_true _ _ h in
      (evaluated f true env b.0, evaluated parts true env b.1)
  evaluated (conjunct f parts) false env h = elim (one_false _ _ h) [
    | inl q ↦ inl (evaluated f false env q)
    | inr q ↦ inr (evaluated parts false env q)
  ]
  evaluated no_disjuncts value env h = atom false value h
  evaluated (disjunct f parts) true env h = elim (one_true _ _ h) [
    | inl q ↦ inl (evaluated f true env q)
    | inr q ↦ inr (evaluated parts true env q)
  ]
  evaluated (disjunct f parts) false env h = let b : _ = both_false _ _ h in
      (evaluated f false env b.0, evaluated parts false env b.1)
  evaluated (implication f g) true env h = elim (one_true _ _ h) [
    | inl q ↦ inl (evaluated f false env (not_true _ q))
    | inr q ↦ inr (evaluated g true env q)
  ]
  evaluated (implication f g) false env h = let b : _ = both_false _ _ h in
      (evaluated f true env (not_false _ b.0), evaluated g false env b.1)
  evaluated no_equals value env h = atom true value h
  evaluated (equals f parts) true env h = elim (agree_true (evaluation u n f env) (evaluation u n parts env) h) [
    | inl q ↦ inl (evaluated f true env q.0, evaluated parts true env q.1)
    | inr q ↦ inr (evaluated f false env q.0, evaluated parts false env q.1)
  ]
  evaluated (equals f parts) false env h = elim (agree_false (evaluation u n f env) (evaluation u n parts env) h) [
    | inl q ↦ inl (evaluated f true env q.0, evaluated parts false env q.1)
    | inr q ↦ inr (evaluated f false env q.0, evaluated parts true env q.1)
  ]
  evaluated (for_all s f) true env h = λ e m. evaluated f true (env ++ e ∷ [])
      (implied (u.has s e) _ (each_passes n (λ e. not (u.has s e) || evaluation u n f (env ++ e ∷ [])) h e (bounded s e m)) m)
  evaluated (for_all s f) false env h =
      let w : (e : ℕ) × (e < n) × ((not (u.has s e) || evaluation u n f (env ++ e ∷ [])) ≡ false) = some_fails n _ h in
      let b : _ = both_false _ _ w.2 in (w.0, not_false _ b.0, evaluated f false (env ++ w.0 ∷ []) b.1)
  evaluated (there_is s f) true env h =
      let w : (e : ℕ) × (e < n) × ((u.has s e && evaluation u n f (env ++ e ∷ [])) ≡ true) = some_passes n _ h in
      let b : _ = both_true _ _ w.2 in (w.0, b.0, evaluated f true (env ++ w.0 ∷ []) b.1)
  evaluated (there_is s f) false env h = λ e m. evaluated f false (env ++ e ∷ [])
      (elim (one_false (u.has s e) _ (each_fails n (λ e. u.has s e && evaluation u n f (env ++ e ∷ [])) h e
      (bounded s e m))) [
        | inl q ↦ cc
        | inr q ↦ q
      ])
  evaluated (same a b) value env h = atom _ value h
  evaluated (in_sort s t) value env h = atom _ value h
  evaluated (related r terms) value env h = atom _ value h
  evaluated (number_test t test) value env h = atom _ value h
  evaluated (asks a terms) value env h = asked a (values_of u env terms) value h

  pub is_truth : (f : FormulaTree) (env : List ℕ) → (evaluation u n f env ≡ true) ↔ HasTruthValue u no_policies f true env
  is_truth f env = (evaluated f true env, λ h. go (evaluation u n f env) refl h)
    where
      go : (b : Bool) → evaluation u n f env ≡ b → HasTruthValue u no_policies f true env → b ≡ true
      go true e h = refl
      go false e h = absurd (not_both u no_policies none_contradict f env h (evaluated f false env e))

  pub is_falsity : (f : FormulaTree) (env : List ℕ) → (evaluation u n f env ≡ false) ↔ HasTruthValue u no_policies f false env
  is_falsity f env = (evaluated f false env, λ h. go (evaluation u n f env) refl h)
    where
      go : (b : Bool) → evaluation u n f env ≡ b → HasTruthValue u no_policies f false env → b ≡ false
      go false e h = refl
      go true e h = absurd (not_both u no_policies none_contradict f env (evaluated f true env e) h)

pub within_size : (table : Table) (s e : ℕ) → IsTrue ((answers table).has s e) → e < table.size
within_size table s e h = ltb-true _ _ (both_true _ _ h).0

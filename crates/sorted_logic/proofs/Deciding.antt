-- Over a finite universe everything is true or false.
use Rattle.std.specs.Prelude.{◌≡◌, ℕ, zero, suc, ◌<◌, Bool, true, false, ◌&&◌, nat_lt, List, [], ◌∷◌, ◌++◌, ◌⊎◌, Option, Some, None, IsTrue, refl}
use Rattle.std.proofs.Common.{inl, inr, subst, sym, arith}
use Rattle.std.specs.Option.{unwrap_or}
use Rattle.std.specs.Prelude.{slice_get}
use Rattle.sorted_logic.specs.Finite.{Table, answers, row}
use Rattle.sorted_logic.specs.Laws.{DecideAll, IsDecided}
use Rattle.sorted_logic.specs.Syntax.{FormulaTree, PolicyAtom, truth, falsity, negation, no_conjuncts, conjunct, no_disjuncts, disjunct, implication, no_equals, equals, for_all, there_is, same, in_sort, related, number_test, asks}
use Rattle.sorted_logic.specs.Truth.{Policies, IsAtom, AskedOf, values_of, HasTruthValue}

-- one that a list's places all pass, or one that does not
scan : (P Q : ℕ → Type 0) (n : ℕ) → ((e : ℕ) → P e ⊎ Q e) → ((e : ℕ) → e < n → P e) ⊎ ((e : ℕ) × Q e)
scan P Q zero h = inl (λ e l. absurd (omega (arith, l)))
scan P Q (suc n) h = elim (scan P Q n h) [
  | inr w ↦ inr w
  | inl all ↦ elim (h n) [
    | inr q ↦ inr (n, q)
    | inl p ↦ inl (λ e l. elim (last e l) [ inl m ↦ all e m | inr eq ↦ subst P (sym eq) p ])
  ]
]
  where
    last : (e : ℕ) → e < suc n → (e < n) ⊎ (e ≡ n)
    last e l = grind arith

atom_decided : (b : Bool) → IsAtom b true ⊎ IsAtom b false
atom_decided true = inl refl
atom_decided false = inr refl

below_size : (n e : ℕ) (b : Bool) → (nat_lt e n && b) ≡ true → e < n
below_size n e b h = grind arith

module _ (policies : Policies) (all : DecideAll policies) (table : Table) where
  Either : FormulaTree → List ℕ → Type 0
  Either f env = HasTruthValue (answers table) policies f true env ⊎ HasTruthValue (answers table) policies f false env

  asked : (atom : PolicyAtom) (elements : Option (List ℕ)) → AskedOf policies atom true elements ⊎ AskedOf policies atom false elements
  asked atom (Some elements) = all atom elements
  asked atom None = inr refl

  -- what is so of each element of a sort, or of one not
  every : (s : ℕ) (f : FormulaTree) (env : List ℕ) → ((e : ℕ) → Either f (env ++ e ∷ []))
      → ((e : ℕ) → IsTrue ((answers table).has s e) → HasTruthValue (answers table) policies f true (env ++ e ∷ []))
      ⊎ ((e : ℕ) × IsTrue ((answers table).has s e) × HasTruthValue (answers table) policies f false (env ++ e ∷ []))
  unfolding Either
  every s f env h = elim (scan (λ e. IsTrue ((answers table).has s e) → HasTruthValue (answers table) policies f true (env ++ e ∷ []))
      (λ e. IsTrue ((answers table).has s e) × HasTruthValue (answers table) policies f false (env ++ e ∷ [])) table.size (λ e. one e ((answers table).has s e) refl (h e))) [
        | inl k ↦ inl (λ e m. k e (below_size table.size e (unwrap_or (slice_get (row table.members s) e) false) m) m)
        | inr w ↦ inr (w.0, w.1.0, w.1.1)
      ]
    where
      one : (e : ℕ) (b : Bool) → (answers table).has s e ≡ b
          → HasTruthValue (answers table) policies f true (env ++ e ∷ []) ⊎ HasTruthValue (answers table) policies f false (env ++ e ∷ [])
          → (IsTrue ((answers table).has s e) → HasTruthValue (answers table) policies f true (env ++ e ∷ []))
          ⊎ (IsTrue ((answers table).has s e) × HasTruthValue (answers table) policies f false (env ++ e ∷ []))
      one e b q (inl k) = inl (λ m. k)
      one e true q (inr k) = inr (q, k)
      one e false q (inr k) = inl (λ m. absurd (no (sym q) m))
        where
          no : false ≡ (answers table).has s e → IsTrue ((answers table).has s e) → ⊥
          no a b = cc

  -- and the other way round
  some : (s : ℕ) (f : FormulaTree) (env : List ℕ) → ((e : ℕ) → Either f (env ++ e ∷ []))
      → ((e : ℕ) × IsTrue ((answers table).has s e) × HasTruthValue (answers table) policies f true (env ++ e ∷ []))
      ⊎ ((e : ℕ) → IsTrue ((answers table).has s e) → HasTruthValue (answers table) policies f false (env ++ e ∷ []))
  unfolding Either
  some s f env h = elim (every s (negation f) env (λ e. swapped (h e))) [ inl k ↦ inr k | inr w ↦ inl w ]
    where
      swapped : {A B : Type 0} → A ⊎ B → B ⊎ A
      swapped (inl a) = inr a
      swapped (inr b) = inl b

  decided : (f : FormulaTree) (env : List ℕ) → Either f env
  unfolding Either
  decided truth env = inl refl
  decided falsity env = inr refl
  decided (negation f) env = elim (decided f env) [ inl h ↦ inr h | inr h ↦ inl h ]
  decided no_conjuncts env = inl refl
  decided (conjunct f parts) env = elim (decided f env) [
    | inr h ↦ inr (inl h)
    | inl h ↦ elim (decided parts env) [ inl k ↦ inl (h, k) | inr k ↦ inr (inr k) ]
  ]
  decided no_disjuncts env = inr refl
  decided (disjunct f parts) env = elim (decided f env) [
    | inl h ↦ inl (inl h)
    | inr h ↦ elim (decided parts env) [ inl k ↦ inl (inr k) | inr k ↦ inr (h, k) ]
  ]
  decided (implication f g) env = elim (decided f env) [
    | inr h ↦ inl (inl h)
    | inl h ↦ elim (decided g env) [ inl k ↦ inl (inr k) | inr k ↦ inr (h, k) ]
  ]
  decided no_equals env = inl refl
  decided (equals f parts) env = elim (decided f env) [
    | inl h ↦ elim (decided parts env) [ inl k ↦ inl (inl (h, k)) | inr k ↦ inr (inl (h, k)) ]
    | inr h ↦ elim (decided parts env) [ inl k ↦ inr (inr (h, k)) | inr k ↦ inl (inr (h, k)) ]
  ]
  decided (for_all s f) env = every s f env (λ e. decided f (env ++ e ∷ []))
  decided (there_is s f) env = some s f env (λ e. decided f (env ++ e ∷ []))
  decided (same a b) env = atom_decided _
  decided (in_sort s t) env = atom_decided _
  decided (related r terms) env = atom_decided _
  decided (number_test t test) env = atom_decided _
  decided (asks atom terms) env = asked atom (values_of (answers table) env terms)

pub all_decided : (policies : Policies) → IsDecided policies
unfolding Either
all_decided policies all table f env = decided policies all table f env

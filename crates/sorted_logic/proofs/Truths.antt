-- Nothing is both true and false, and truth looks at the variables that occur.
use Rattle.std.specs.Prelude.{◌≡◌, ℕ, zero, suc, Bool, true, false, not, List, [], ◌∷◌, ◌++◌, Option, Some, None, length, slice_get, option_and_then, refl}
use Rattle.std.proofs.Common.{inl, inr, ap, ap₂, subst, arith}
use Rattle.std.proofs.lemmas.List.{length-append}
use Rattle.sorted_logic.specs.Laws.{NeverContradict, IsNeverBoth, LooksAtOccurring, IsGroupedLeft}
use Rattle.sorted_logic.specs.Syntax.{TermTree, variable, call, TermChain, no_terms, and_term, PolicyAtom, FormulaTree, truth, falsity, negation, no_conjuncts, conjunct, no_disjuncts, disjunct, implication, no_equals, equals, for_all, there_is, same, in_sort, related, number_test, asks}
use Rattle.sorted_logic.specs.Trees.{equivalence}
use Rattle.sorted_logic.specs.Truth.{value_of, values_of, passes_of, are_same, passes, IsAtom, Policies, AskedOf, no_policies, HasTruthValue}
use Rattle.sorted_logic.specs.Universe.{Universe}
use Rattle.sorted_logic.specs.Variables.{OccursInTerm, OccursInTerms}

pub atom_once : (b : Bool) → IsAtom b true → IsAtom b false → ⊥
atom_once b h k = cc

pub none_contradict : NeverContradict no_policies
none_contradict atom elements h k = atom_once false h k

module _ (u : Universe) (policies : Policies) where
  asked_once : NeverContradict policies → (atom : PolicyAtom) (elements : Option (List ℕ)) → AskedOf policies atom true elements
      → AskedOf policies atom false elements → ⊥
  asked_once c atom None h k = atom_once false h k
  asked_once c atom (Some elements) h k = c atom elements h k

  pub not_both : IsNeverBoth u policies
  not_both c truth env h k = atom_once true h k
  not_both c falsity env h k = atom_once false h k
  not_both c (negation f) env h k = not_both c f env k h
  not_both c no_conjuncts env h k = atom_once true h k
  not_both c (conjunct f parts) env h (inl k) = not_both c f env h.0 k
  not_both c (conjunct f parts) env h (inr k) = not_both c parts env h.1 k
  not_both c no_disjuncts env h k = atom_once false h k
  not_both c (disjunct f parts) env (inl h) k = not_both c f env h k.0
  not_both c (disjunct f parts) env (inr h) k = not_both c parts env h k.1
  not_both c (implication f g) env (inl h) k = not_both c f env k.0 h
  not_both c (implication f g) env (inr h) k = not_both c g env h k.1
  not_both c no_equals env h k = atom_once true h k
  not_both c (equals f parts) env (inl h) (inl k) = not_both c parts env h.1 k.1
  not_both c (equals f parts) env (inl h) (inr k) = not_both c f env h.0 k.0
  not_both c (equals f parts) env (inr h) (inl k) = not_both c f env k.0 h.0
  not_both c (equals f parts) env (inr h) (inr k) = not_both c parts env k.1 h.1
  not_both c (for_all s f) env h k = not_both c f (env ++ k.0 ∷ []) (h k.0 k.1) k.2
  not_both c (there_is s f) env h k = not_both c f (env ++ h.0 ∷ []) h.2 (k h.0 h.1)
  not_both c (same a b) env h k = atom_once _ h k
  not_both c (in_sort s t) env h k = atom_once _ h k
  not_both c (related r terms) env h k = atom_once _ h k
  not_both c (number_test t test) env h k = atom_once _ h k
  not_both c (asks atom terms) env h k = asked_once c atom (values_of u env terms) h k

-- Variables.

mutual
  value_looks : (u : Universe) (t : TermTree) (env other : List ℕ) → ((x : ℕ) → OccursInTerm x t → slice_get env x ≡ slice_get other x)
      → value_of u env t ≡ value_of u other t
  value_looks u (variable x) env other h = h x refl
  value_looks u (call f terms) env other h = ap (option_and_then (u.value f)) (values_look u terms env other h)

  values_look : (u : Universe) (terms : TermChain) (env other : List ℕ)
      → ((x : ℕ) → OccursInTerms x terms → slice_get env x ≡ slice_get other x) → values_of u env terms ≡ values_of u other terms
  values_look u no_terms env other h = refl
  values_look u (and_term t terms) env other h =
      rw (value_looks u t env other (λ x o. h x (inl o)), values_look u terms env other (λ x o. h x (inr o))) refl

agree_behind : (env other : List ℕ) (e x : ℕ) → length env ≡ length other → slice_get env x ≡ slice_get other x
    → slice_get (env ++ e ∷ []) x ≡ slice_get (other ++ e ∷ []) x
agree_behind [] [] e x l h = refl
agree_behind [] (y ∷ ys) e x l h = cc
agree_behind (y ∷ ys) [] e x l h = cc
agree_behind (y ∷ ys) (z ∷ zs) e zero l h = h
agree_behind (y ∷ ys) (z ∷ zs) e (suc x) l h = agree_behind ys zs e x (omega arith) h

as_long : (env other : List ℕ) (e : ℕ) → length env ≡ length other → length (env ++ e ∷ []) ≡ length (other ++ e ∷ [])
as_long env other e l = omega (arith, l, length-append env (e ∷ []), length-append other (e ∷ []))

module _ (u : Universe) (policies : Policies) where
  pub looks : LooksAtOccurring u policies
  looks truth v env other l h p = p
  looks falsity v env other l h p = p
  looks (negation f) v env other l h p = looks f (not v) env other l h p
  looks no_conjuncts v env other l h p = p
  looks (conjunct f parts) true env other l h p =
      (looks f true env other l (λ x o. h x (inl o)) p.0, looks parts true env other l (λ x o. h x (inr o)) p.1)
  looks (conjunct f parts) false env other l h (inl p) = inl (looks f false env other l (λ x o. h x (inl o)) p)
  looks (conjunct f parts) false env other l h (inr p) = inr (looks parts false env other l (λ x o. h x (inr o)) p)
  looks no_disjuncts v env other l h p = p
  looks (disjunct f parts) true env other l h (inl p) = inl (looks f true env other l (λ x o. h x (inl o)) p)
  looks (disjunct f parts) true env other l h (inr p) = inr (looks parts true env other l (λ x o. h x (inr o)) p)
  looks (disjunct f parts) false env other l h p =
      (looks f false env other l (λ x o. h x (inl o)) p.0, looks parts false env other l (λ x o. h x (inr o)) p.1)
  looks (implication f g) true env other l h (inl p) = inl (looks f false env other l (λ x o. h x (inl o)) p)
  looks (implication f g) true env other l h (inr p) = inr (looks g true env other l (λ x o. h x (inr o)) p)
  looks (implication f g) false env other l h p =
      (looks f true env other l (λ x o. h x (inl o)) p.0, looks g false env other l (λ x o. h x (inr o)) p.1)
  looks no_equals v env other l h p = p
  looks (equals f parts) true env other l h (inl p) =
      inl (looks f true env other l (λ x o. h x (inl o)) p.0, looks parts true env other l (λ x o. h x (inr o)) p.1)
  looks (equals f parts) true env other l h (inr p) =
      inr (looks f false env other l (λ x o. h x (inl o)) p.0, looks parts false env other l (λ x o. h x (inr o)) p.1)
  looks (equals f parts) false env other l h (inl p) =
      inl (looks f true env other l (λ x o. h x (inl o)) p.0, looks parts false env other l (λ x o. h x (inr o)) p.1)
  looks (equals f parts) false env other l h (inr p) =
      inr (looks f false env other l (λ x o. h x (inl o)) p.0, looks parts true env other l (λ x o. h x (inr o)) p.1)
  looks (for_all s f) true env other l h p =
      λ e m. looks f true (env ++ e ∷ []) (other ++ e ∷ []) (as_long env other e l) (λ x o. agree_behind env other e x l (h x o)) (p e m)
  looks (for_all s f) false env other l h p =
      (p.0, p.1, looks f false (env ++ p.0 ∷ []) (other ++ p.0 ∷ []) (as_long env other p.0 l) (λ x o. agree_behind env other p.0 x l (h x o)) p.2)
  looks (there_is s f) true env other l h p =
      (p.0, p.1, looks f true (env ++ p.0 ∷ []) (other ++ p.0 ∷ []) (as_long env other p.0 l) (λ x o. agree_behind env other p.0 x l (h x o)) p.2)
  looks (there_is s f) false env other l h p =
      λ e m. looks f false (env ++ e ∷ []) (other ++ e ∷ []) (as_long env other e l) (λ x o. agree_behind env other e x l (h x o)) (p e m)
  looks (same a b) v env other l h p = subst (λ w. IsAtom w v)
      (ap₂ are_same (value_looks u a env other (λ x o. h x (inl o))) (value_looks u b env other (λ x o. h x (inr o)))) p
  looks (in_sort s t) v env other l h p = subst (λ w. IsAtom (passes_of (u.has s) w) v) (value_looks u t env other h) p
  looks (related r terms) v env other l h p = subst (λ w. IsAtom (passes_of (u.relates r) w) v) (values_look u terms env other h) p
  looks (number_test t test) v env other l h p =
      subst (λ w. IsAtom (passes_of (λ e. passes_of (passes test) (u.number e)) w) v) (value_looks u t env other h) p
  looks (asks atom terms) v env other l h p = subst (λ w. AskedOf policies atom v w) (values_look u terms env other h) p

-- IFF chains.

module _ (u : Universe) (policies : Policies) where
  to_left : (f g h : FormulaTree) (v : Bool) (env : List ℕ) → HasTruthValue u policies (equals f (equals g h)) v env
      → HasTruthValue u policies (equals (equals f g) h) v env
  to_left f g h true env (inl (x, inl (y, z))) = inl (inl (x, y), z)
  to_left f g h true env (inl (x, inr (y, z))) = inr (inl (x, y), z)
  to_left f g h true env (inr (x, inl (y, z))) = inr (inr (x, y), z)
  to_left f g h true env (inr (x, inr (y, z))) = inl (inr (x, y), z)
  to_left f g h false env (inl (x, inl (y, z))) = inl (inl (x, y), z)
  to_left f g h false env (inl (x, inr (y, z))) = inr (inl (x, y), z)
  to_left f g h false env (inr (x, inl (y, z))) = inr (inr (x, y), z)
  to_left f g h false env (inr (x, inr (y, z))) = inl (inr (x, y), z)

  to_right : (f g h : FormulaTree) (v : Bool) (env : List ℕ) → HasTruthValue u policies (equals (equals f g) h) v env
      → HasTruthValue u policies (equals f (equals g h)) v env
  to_right f g h true env (inl (inl (x, y), z)) = inl (x, inl (y, z))
  to_right f g h true env (inl (inr (x, y), z)) = inr (x, inr (y, z))
  to_right f g h true env (inr (inl (x, y), z)) = inl (x, inr (y, z))
  to_right f g h true env (inr (inr (x, y), z)) = inr (x, inl (y, z))
  to_right f g h false env (inl (inl (x, y), z)) = inl (x, inl (y, z))
  to_right f g h false env (inl (inr (x, y), z)) = inr (x, inr (y, z))
  to_right f g h false env (inr (inl (x, y), z)) = inl (x, inr (y, z))
  to_right f g h false env (inr (inr (x, y), z)) = inr (x, inl (y, z))

  beside : (f g h : FormulaTree) (env : List ℕ) → ((v : Bool) → HasTruthValue u policies g v env → HasTruthValue u policies h v env)
      → (v : Bool) → HasTruthValue u policies (equals f g) v env → HasTruthValue u policies (equals f h) v env
  beside f g h env r true (inl (x, y)) = inl (x, r true y)
  beside f g h env r true (inr (x, y)) = inr (x, r false y)
  beside f g h env r false (inl (x, y)) = inl (x, r false y)
  beside f g h env r false (inr (x, y)) = inr (x, r true y)

  grouped : (parts : List FormulaTree) (last : FormulaTree) (env : List ℕ) (v : Bool)
      → HasTruthValue u policies (equivalence (parts ++ last ∷ [])) v env
      → HasTruthValue u policies (equals (equivalence parts) (equals last no_equals)) v env
  grouped [] last env true h = inl (refl, h)
  grouped [] last env false h = inl (refl, h)
  grouped (f ∷ parts) last env v h = to_left f (equivalence parts) (equals last no_equals) v env
      (beside f (equivalence (parts ++ last ∷ [])) (equals (equivalence parts) (equals last no_equals)) env (grouped parts last env) v h)

  ungrouped : (parts : List FormulaTree) (last : FormulaTree) (env : List ℕ) (v : Bool)
      → HasTruthValue u policies (equals (equivalence parts) (equals last no_equals)) v env
      → HasTruthValue u policies (equivalence (parts ++ last ∷ [])) v env
  ungrouped [] last env true (inl (x, h)) = h
  ungrouped [] last env true (inr (x, h)) = absurd (atom_once true refl x)
  ungrouped [] last env false (inl (x, h)) = h
  ungrouped [] last env false (inr (x, h)) = absurd (atom_once true refl x)
  ungrouped (f ∷ parts) last env v h =
      beside f (equals (equivalence parts) (equals last no_equals)) (equivalence (parts ++ last ∷ [])) env (ungrouped parts last env) v
      (to_right f (equivalence parts) (equals last no_equals) v env h)

  pub grouped_left : IsGroupedLeft u policies
  grouped_left parts last v env = (grouped parts last env v, ungrouped parts last env v)

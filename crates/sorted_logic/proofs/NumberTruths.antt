-- A formula about numbers is true where it is true of the numbers.
use Rattle.std.specs.Prelude.{◌≡◌, ℕ, zero, suc, Bool, true, false, not, ◌&&◌, ◌||◌, ◌==◌, List, [], ◌∷◌, Option, Some, None, IsTrue, length, slice_get, is_some, option_map, ◌⊎◌, refl}
use Rattle.std.specs.Bool.{beq}
use Rattle.std.proofs.Common.{inl, inr, ap, sym, subst, ◌∙◌, eqb-true, eq-eqb}
use Rattle.sorted_logic.specs.declared.term.Sort.{Sort}
use Rattle.sorted_logic.specs.declared.formula.Test.{Test}
use Rattle.sorted_logic.specs.Laws.{IsOfNumbers}
use Rattle.sorted_logic.specs.Numbers.{has_number, is_numeric, number_of, true_on, Carry}
use Rattle.sorted_logic.specs.Signature.{Signature, IsSignature, root, sort_bits}
use Rattle.sorted_logic.specs.Sorting.{sort_of, one_root, IsWellSorted}
use Rattle.sorted_logic.specs.Syntax.{TermTree, variable, call, FormulaTree, truth, falsity, negation, no_conjuncts, conjunct, no_disjuncts, disjunct, implication, no_equals, equals, for_all, there_is, same, in_sort, related, number_test, asks}
use Rattle.sorted_logic.specs.Truth.{value_of, passes_of, are_same, passes, IsAtom, Policies, HasTruthValue}
use Rattle.sorted_logic.specs.Universe.{Universe, IsUniverse}
use Rattle.sorted_logic.proofs.Overlapping.{climbs}
use Rattle.sorted_logic.proofs.Truths.{atom_once}

pub both : (a b : Bool) → (a && b) ≡ true → (a ≡ true) × (b ≡ true)
both true b h = (refl, h)
both false b h = cc

one_fails : (a b : Bool) → (a && b) ≡ false → (a ≡ false) ⊎ (b ≡ false)
one_fails true b h = inr h
one_fails false b h = inl refl

one_holds : (a b : Bool) → (a || b) ≡ true → (a ≡ true) ⊎ (b ≡ true)
one_holds true b h = inl refl
one_holds false b h = inr h

neither : (a b : Bool) → (a || b) ≡ false → (a ≡ false) × (b ≡ false)
neither true b h = cc
neither false b h = (refl, h)

not_true : (b : Bool) → not b ≡ true → b ≡ false
not_true true h = cc
not_true false h = refl

not_false : (b : Bool) → not b ≡ false → b ≡ true
not_false true h = refl
not_false false h = cc

atom : (b v : Bool) → b ≡ v → IsAtom b v
atom b true h = h
atom b false h = h

same_tests : (a b m n : ℕ) → (a ≡ b → m ≡ n) → (m ≡ n → a ≡ b) → (a == b) ≡ (m == n)
same_tests a b m n f g = go (a == b) refl (m == n) refl
  where
    go : (v : Bool) → (a == b) ≡ v → (w : Bool) → (m == n) ≡ w → v ≡ w
    go true h true k = refl
    go false h false k = refl
    go true h false k = absurd (no (sym (eq-eqb m n (f (eqb-true a b h))) ∙ k))
      where
        no : true ≡ false → ⊥
        no h = cc
    go false h true k = absurd (no (sym (eq-eqb a b (g (eqb-true m n k))) ∙ h))
      where
        no : true ≡ false → ⊥
        no h = cc

module _ (u : Universe) (sig : Signature) (hs : IsSignature sig) (hu : IsUniverse sig u) where
  -- a variable with numbers has an element of its sort, and this carries the number of the list
  pub record Carried (vars : List Sort) (env numbers : List ℕ) (x : ℕ) : Type 0 where
    pub sort : Sort
    pub element : ℕ
    pub number : ℕ
    pub bits : ℕ
    pub sorted : slice_get vars x ≡ Some sort
    pub value : slice_get env x ≡ Some element
    pub shown : slice_get numbers x ≡ Some number
    pub has : IsTrue (u.has sort.0 element)
    pub carries : u.number element ≡ Some number
    pub numbered : sort_bits sig sort.0 ≡ Some bits

  carried : (vars : List Sort) (env numbers : List ℕ) (x : ℕ) → Carry sig u vars env numbers → has_number sig vars (variable x) ≡ true
      → Carried vars env numbers x
  carried [] [] [] x c h = cc
  carried [] [] (n ∷ numbers) x c h = elim c [ ]
  carried [] (e ∷ env) numbers x c h = elim c [ ]
  carried (s ∷ vars) [] numbers x c h = elim c [ ]
  carried (s ∷ vars) (e ∷ env) [] x c h = elim c [ ]
  carried (s ∷ vars) (e ∷ env) (n ∷ numbers) zero c h = go (sort_bits sig s.0) refl h
    where
      go : (o : Option ℕ) → sort_bits sig s.0 ≡ o → is_some o ≡ true → Carried (s ∷ vars) (e ∷ env) (n ∷ numbers) zero
      go None q k = cc
      go (Some b) q k = record {
        sort = s;
        element = e;
        number = n;
        bits = b;
        sorted = refl;
        value = refl;
        shown = refl;
        has = c.0;
        carries = c.1 (ap is_some q);
        numbered = q;
      }
  carried (s ∷ vars) (e ∷ env) (n ∷ numbers) (suc x) c h =
      let r : Carried vars env numbers x = carried vars env numbers x c.2 h in
      record {
        sort = r.sort;
        element = r.element;
        number = r.number;
        bits = r.bits;
        sorted = r.sorted;
        value = r.value;
        shown = r.shown;
        has = r.has;
        carries = r.carries;
        numbered = r.numbered;
      }

  module _ (vars : List Sort) (env numbers : List ℕ) (carry : Carry sig u vars env numbers) where
    -- two variables with numbers under one root have one value exactly where they have one number
    same_variables : (x y : ℕ) → Carried vars env numbers x → Carried vars env numbers y
        → ((s t : ℕ) → sort_of sig vars (variable x) ≡ Some s → sort_of sig vars (variable y) ≡ Some t → IsTrue (one_root sig s t))
        → are_same (slice_get env x) (slice_get env y) ≡ are_same (slice_get numbers x) (slice_get numbers y)
    same_variables x y a b one = rw (a.value, b.value, a.shown, b.shown) (same_tests a.element b.element a.number b.number
        (λ q. some_once a.number b.number (sym a.carries ∙ ap u.number q ∙ b.carries))
        (λ q. hu.numbers_differ (root sig a.sort.0) a.bits a.element b.element a.numbered
        (climbs u sig hs hu (length sig.sorts) a.sort.0 a.element a.has)
        (subst (λ r. IsTrue (u.has r b.element)) (sym roots) (climbs u sig hs hu (length sig.sorts) b.sort.0 b.element b.has))
        (a.carries ∙ ap Some q ∙ sym b.carries)))
      where
        some_once : (m n : ℕ) → Some m ≡ Some n → m ≡ n
        some_once m n h = cc

        roots : root sig a.sort.0 ≡ root sig b.sort.0
        roots = eqb-true (root sig a.sort.0) (root sig b.sort.0)
            (one a.sort.0 b.sort.0 (ap (option_map (λ s. s.0)) a.sorted) (ap (option_map (λ s. s.0)) b.sorted))

    tested : (x : ℕ) (test : Test) → Carried vars env numbers x
        → passes_of (λ e. passes_of (passes test) (u.number e)) (slice_get env x) ≡ passes_of (passes test) (slice_get numbers x)
    tested x test a = rw (a.value, a.shown, a.carries) refl

    -- an equality of variables with numbers, and a test of one
    same_terms : (a b : TermTree) → is_numeric sig vars (same a b) ≡ true → IsWellSorted sig vars (same a b)
        → are_same (value_of u env a) (value_of u env b) ≡ are_same (number_of numbers a) (number_of numbers b)
    same_terms (variable x) (variable y) h w =
        let k : (has_number sig vars (variable x) ≡ true) × (has_number sig vars (variable y) ≡ true) = both _ _ h in
        same_variables x y (carried vars env numbers x carry k.0) (carried vars env numbers y carry k.1) w.2
    same_terms (variable x) (call f terms) h w = absurd (no (has_number sig vars (variable x)) h)
      where
        no : (b : Bool) → (b && false) ≡ true → ⊥
        no true h = cc
        no false h = cc
    same_terms (call f terms) b h w = cc

    tested_term : (t : TermTree) (test : Test) → is_numeric sig vars (number_test t test) ≡ true
        → passes_of (λ e. passes_of (passes test) (u.number e)) (value_of u env t) ≡ passes_of (passes test) (number_of numbers t)
    tested_term (variable x) test h = tested x test (carried vars env numbers x carry h)
    tested_term (call f terms) test h = cc

    pub to_truth : (policies : Policies) (f : FormulaTree) (v : Bool) → is_numeric sig vars f ≡ true → IsWellSorted sig vars f
        → true_on f numbers ≡ v → HasTruthValue u policies f v env
    to_truth policies truth v n w h = atom true v h
    to_truth policies falsity v n w h = atom false v h
    to_truth policies (negation f) true n w h = to_truth policies f false n w (not_true _ h)
    to_truth policies (negation f) false n w h = to_truth policies f true n w (not_false _ h)
    to_truth policies no_conjuncts v n w h = atom true v h
    to_truth policies (conjunct f parts) true n w h =
        let k : (is_numeric sig vars f ≡ true) × (is_numeric sig vars parts ≡ true) = both _ _ n in
        let b : (true_on f numbers ≡ true) × (true_on parts numbers ≡ true) = both _ _ h in
        (to_truth policies f true k.0 w.0 b.0, to_truth policies parts true k.1 w.1 b.1)
    to_truth policies (conjunct f parts) false n w h =
        let k : (is_numeric sig vars f ≡ true) × (is_numeric sig vars parts ≡ true) = both _ _ n in
        elim (one_fails (true_on f numbers) (true_on parts numbers) h) [
          | inl q ↦ inl (to_truth policies f false k.0 w.0 q)
          | inr q ↦ inr (to_truth policies parts false k.1 w.1 q)
        ]
    to_truth policies no_disjuncts v n w h = atom false v h
    to_truth policies (disjunct f parts) true n w h =
        let k : (is_numeric sig vars f ≡ true) × (is_numeric sig vars parts ≡ true) = both _ _ n in
        elim (one_holds (true_on f numbers) (true_on parts numbers) h) [
          | inl q ↦ inl (to_truth policies f true k.0 w.0 q)
          | inr q ↦ inr (to_truth policies parts true k.1 w.1 q)
        ]
    to_truth policies (disjunct f parts) false n w h =
        let k : (is_numeric sig vars f ≡ true) × (is_numeric sig vars parts ≡ true) = both _ _ n in
        let b : (true_on f numbers ≡ false) × (true_on parts numbers ≡ false) = neither _ _ h in
        (to_truth policies f false k.0 w.0 b.0, to_truth policies parts false k.1 w.1 b.1)
    to_truth policies (implication f g) true n w h =
        let k : (is_numeric sig vars f ≡ true) × (is_numeric sig vars g ≡ true) = both _ _ n in
        elim (one_holds (not (true_on f numbers)) (true_on g numbers) h) [
          | inl q ↦ inl (to_truth policies f false k.0 w.0 (not_true _ q))
          | inr q ↦ inr (to_truth policies g true k.1 w.1 q)
        ]
    to_truth policies (implication f g) false n w h =
        let k : (is_numeric sig vars f ≡ true) × (is_numeric sig vars g ≡ true) = both _ _ n in
        let b : (not (true_on f numbers) ≡ false) × (true_on g numbers ≡ false) = neither _ _ h in
        (to_truth policies f true k.0 w.0 (not_false _ b.0), to_truth policies g false k.1 w.1 b.1)
    to_truth policies no_equals v n w h = atom true v h
    to_truth policies (equals f parts) v n w h =
        let k : (is_numeric sig vars f ≡ true) × (is_numeric sig vars parts ≡ true) = both _ _ n in
        go (true_on f numbers) refl (true_on parts numbers) refl v h
        (λ x e. to_truth policies f x k.0 w.0 e) (λ x e. to_truth policies parts x k.1 w.1 e)
      where
        go : (x : Bool) → true_on f numbers ≡ x → (y : Bool) → true_on parts numbers ≡ y → (v : Bool) → beq x y ≡ v
            → ((x : Bool) → true_on f numbers ≡ x → HasTruthValue u policies f x env)
            → ((y : Bool) → true_on parts numbers ≡ y → HasTruthValue u policies parts y env)
            → HasTruthValue u policies (equals f parts) v env
        go true p true q true h a b = inl (a true p, b true q)
        go false p false q true h a b = inr (a false p, b false q)
        go true p false q false h a b = inl (a true p, b false q)
        go false p true q false h a b = inr (a false p, b true q)
        go true p true q false h a b = cc
        go false p false q false h a b = cc
        go true p false q true h a b = cc
        go false p true q true h a b = cc
    to_truth policies (same a b) v n w h = atom _ v (same_terms a b n w ∙ h)
    to_truth policies (number_test t test) v n w h = atom _ v (tested_term t test n ∙ h)
    to_truth policies (for_all s f) v n w h = cc
    to_truth policies (there_is s f) v n w h = cc
    to_truth policies (in_sort s t) v n w h = cc
    to_truth policies (related r terms) v n w h = cc
    to_truth policies (asks a terms) v n w h = cc

-- what is said of numbers is never both, whatever the policies are
numeric_once : (sig : Signature) (vars : List Sort) (u : Universe) (policies : Policies) (f : FormulaTree) (env : List ℕ) → is_numeric sig vars f ≡ true
    → HasTruthValue u policies f true env → HasTruthValue u policies f false env → ⊥
numeric_once sig vars u policies truth env n h k = atom_once true h k
numeric_once sig vars u policies falsity env n h k = atom_once false h k
numeric_once sig vars u policies (negation f) env n h k = numeric_once sig vars u policies f env n k h
numeric_once sig vars u policies no_conjuncts env n h k = atom_once true h k
numeric_once sig vars u policies (conjunct f parts) env n h (inl k) = numeric_once sig vars u policies f env (both _ _ n).0 h.0 k
numeric_once sig vars u policies (conjunct f parts) env n h (inr k) = numeric_once sig vars u policies parts env (both _ _ n).1 h.1 k
numeric_once sig vars u policies no_disjuncts env n h k = atom_once false h k
numeric_once sig vars u policies (disjunct f parts) env n (inl h) k = numeric_once sig vars u policies f env (both _ _ n).0 h k.0
numeric_once sig vars u policies (disjunct f parts) env n (inr h) k = numeric_once sig vars u policies parts env (both _ _ n).1 h k.1
numeric_once sig vars u policies (implication f g) env n (inl h) k = numeric_once sig vars u policies f env (both _ _ n).0 k.0 h
numeric_once sig vars u policies (implication f g) env n (inr h) k = numeric_once sig vars u policies g env (both _ _ n).1 h k.1
numeric_once sig vars u policies no_equals env n h k = atom_once true h k
numeric_once sig vars u policies (equals f parts) env n (inl h) (inl k) = numeric_once sig vars u policies parts env (both _ _ n).1 h.1 k.1
numeric_once sig vars u policies (equals f parts) env n (inl h) (inr k) = numeric_once sig vars u policies f env (both _ _ n).0 h.0 k.0
numeric_once sig vars u policies (equals f parts) env n (inr h) (inl k) = numeric_once sig vars u policies f env (both _ _ n).0 k.0 h.0
numeric_once sig vars u policies (equals f parts) env n (inr h) (inr k) = numeric_once sig vars u policies parts env (both _ _ n).1 k.1 h.1
numeric_once sig vars u policies (same a b) env n h k = atom_once _ h k
numeric_once sig vars u policies (number_test t test) env n h k = atom_once _ h k
numeric_once sig vars u policies (for_all s f) env n h k = cc
numeric_once sig vars u policies (there_is s f) env n h k = cc
numeric_once sig vars u policies (in_sort s t) env n h k = cc
numeric_once sig vars u policies (related r terms) env n h k = cc
numeric_once sig vars u policies (asks atom terms) env n h k = cc

pub of_numbers : (u : Universe) (policies : Policies) → IsOfNumbers u policies
of_numbers u policies sig hs hu f vars env numbers n w carry v =
    ((λ h. go v (true_on f numbers) refl h), to_truth u sig hs hu vars env numbers carry policies f v n w)
  where
    go : (v x : Bool) → true_on f numbers ≡ x → HasTruthValue u policies f v env → true_on f numbers ≡ v
    go true true e h = e
    go false false e h = e
    go true false e h = absurd (numeric_once sig vars u policies f env n h (to_truth u sig hs hu vars env numbers carry policies f false n w e))
    go false true e h = absurd (numeric_once sig vars u policies f env n (to_truth u sig hs hu vars env numbers carry policies f true n w e) h)

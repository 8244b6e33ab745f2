-- A formula has no fault exactly where it is well-sorted.
use Rattle.std.specs.Prelude.{◌≡◌, ◌<◌, ℕ, zero, suc, Bool, true, false, ◌==◌, nat_lt, List, [], ◌∷◌, ◌++◌, Option, Some, None, IsTrue, IfOk, length, slice_get, option_map, is_some, refl}
use Rattle.std.specs.Option.{option_or, option_map_or}
use Rattle.std.specs.Result.{result_err}
use Rattle.std.proofs.Common.{Result, Ok, Err, ap, sym, subst, arith, lt-ltb, ltb-true, eqb-true, eq-eqb}
use Rattle.sorted_logic.specs.declared.declarations.FuncDecl.{FuncDecl}
use Rattle.sorted_logic.specs.declared.declarations.RelDecl.{RelDecl}
use Rattle.sorted_logic.specs.declared.fault.SortFault.{SortFault}
use Rattle.sorted_logic.specs.declared.fault.SortFault.TheVariants as sort_fault
use Rattle.sorted_logic.specs.declared.formula.Test.{Test}
use Rattle.sorted_logic.specs.declared.term.Sort.{Sort}
use Rattle.sorted_logic.specs.Laws.{IsFaultless}
use Rattle.sorted_logic.specs.Signature.{Signature, below, sort_bits}
use Rattle.sorted_logic.specs.Sorting.{sort_of, one_root, is_in_range, Fits, IsTerm, AreArguments, IsWellSorted, unless, chain_length, misfit, term_fault, arguments_fault, incomparable, without_numbers, out_of_range, sort_fault_of, first_fault}
use Rattle.sorted_logic.specs.Syntax.{TermTree, variable, call, TermChain, no_terms, and_term, FormulaTree, truth, falsity, negation, no_conjuncts, conjunct, no_disjuncts, disjunct, implication, no_equals, equals, for_all, there_is, same, in_sort, related, number_test, asks}

both_none : (a b : Option SortFault) → option_or a b ≡ None → (a ≡ None) × (b ≡ None)
both_none None b h = (refl, h)
both_none (Some fault) b h = cc

kept : (b : Bool) (fault : SortFault) → unless b fault ≡ None → b ≡ true
kept true fault h = refl
kept false fault h = cc

declared : (n m : ℕ) → unless (nat_lt n m) sort_fault.Unknown ≡ None → n < m
declared n m h = ltb-true n m (kept (nat_lt n m) sort_fault.Unknown h)

undoubted : (n m : ℕ) → n < m → unless (nat_lt n m) sort_fault.Unknown ≡ None
undoubted n m h = rw (lt-ltb n m h) refl

sort_at : (sorts : List Sort) (x : ℕ) → x < length sorts → (s : ℕ) × (option_map (λ s. s.0) (slice_get sorts x) ≡ Some s)
sort_at [] x h = absurd (omega arith)
sort_at (s ∷ sorts) zero h = (s.0, refl)
sort_at (s ∷ sorts) (suc x) h = sort_at sorts x (omega arith)

fitting : (fits : ℕ → ℕ → Bool) (o : Option ℕ) (required : ℕ) → misfit fits o required ≡ None
    → (s : ℕ) × (o ≡ Some s) → Fits fits o required
fitting fits None required h s = let e : None ≡ Some s.0 = s.1 in cc
fitting fits (Some s) required h k = kept (fits s required) sort_fault.IllSorted h

fitted : (fits : ℕ → ℕ → Bool) (o : Option ℕ) (required : ℕ) → Fits fits o required → misfit fits o required ≡ None
fitted fits None required h = absurd h
fitted fits (Some s) required h = rw h refl

module _ (sig : Signature) (vars : List Sort) where
  has_sort : (t : TermTree) → IsTerm sig vars t → (s : ℕ) × (sort_of sig vars t ≡ Some s)
  has_sort (variable x) h = sort_at vars x h
  has_sort (call f terms) h = (h.0.result.0, ap (option_map (λ d. d.result.0)) h.1)

  mutual
    term_sorted : (t : TermTree) → term_fault sig vars t ≡ None → IsTerm sig vars t
    term_sorted (variable x) h = declared x (length vars) h
    term_sorted (call f terms) h =
        go (slice_get sig.functions f) refl h (λ sorts n k. arguments_sorted (below sig) sorts terms n k)
      where
        go : (o : Option FuncDecl) → slice_get sig.functions f ≡ o
            → option_map_or (λ d. option_or (unless (chain_length terms == length d.args) sort_fault.Arity)
            (arguments_fault sig vars (below sig) d.args terms)) o (Some sort_fault.Unknown) ≡ None
            → ((sorts : List Sort) → (chain_length terms == length sorts) ≡ true
            → arguments_fault sig vars (below sig) sorts terms ≡ None → AreArguments sig vars (below sig) sorts terms)
            → (d : FuncDecl) × (slice_get sig.functions f ≡ Some d) × AreArguments sig vars (below sig) d.args terms
        go None e h rec = cc
        go (Some d) e h rec =
            let p : _ = both_none (unless (chain_length terms == length d.args) sort_fault.Arity) _ h in
            (d, e, rec d.args (kept _ _ p.0) p.1)

    arguments_sorted : (fits : ℕ → ℕ → Bool) (sorts : List Sort) (terms : TermChain)
        → (chain_length terms == length sorts) ≡ true
        → arguments_fault sig vars fits sorts terms ≡ None → AreArguments sig vars fits sorts terms
    arguments_sorted fits [] no_terms n h = tt
    arguments_sorted fits [] (and_term t terms) n h = absurd (omega (arith, eqb-true _ _ n))
    arguments_sorted fits (s ∷ sorts) no_terms n h = absurd (omega (arith, eqb-true _ _ n))
    arguments_sorted fits (s ∷ sorts) (and_term t terms) n h =
        let p : _ = both_none (misfit fits (sort_of sig vars t) s.0)
        (option_or (term_fault sig vars t) (arguments_fault sig vars fits sorts terms)) h in
        let q : _ = both_none (term_fault sig vars t) (arguments_fault sig vars fits sorts terms) p.1 in
        let it : IsTerm sig vars t = term_sorted t q.0 in (
          fitting fits (sort_of sig vars t) s.0 p.0 (has_sort t it),
          it,
          arguments_sorted fits sorts terms (eq-eqb _ _ (omega (arith, eqb-true _ _ n))) q.1,
        )

  as_many : (fits : ℕ → ℕ → Bool) (sorts : List Sort) (terms : TermChain)
      → AreArguments sig vars fits sorts terms → chain_length terms ≡ length sorts
  as_many fits [] no_terms h = refl
  as_many fits [] (and_term t terms) h = absurd h
  as_many fits (s ∷ sorts) no_terms h = absurd h
  as_many fits (s ∷ sorts) (and_term t terms) h = omega (arith, as_many fits sorts terms h.2)

  mutual
    term_faultless : (t : TermTree) → IsTerm sig vars t → term_fault sig vars t ≡ None
    term_faultless (variable x) h = undoubted x (length vars) h
    term_faultless (call f terms) h =
        rw (h.1, eq-eqb _ _ (as_many (below sig) h.0.args terms h.2)) (arguments_faultless (below sig) h.0.args terms h.2)

    arguments_faultless : (fits : ℕ → ℕ → Bool) (sorts : List Sort) (terms : TermChain)
        → AreArguments sig vars fits sorts terms → arguments_fault sig vars fits sorts terms ≡ None
    arguments_faultless fits [] terms h = refl
    arguments_faultless fits (s ∷ sorts) no_terms h = refl
    arguments_faultless fits (s ∷ sorts) (and_term t terms) h =
        rw (fitted fits (sort_of sig vars t) s.0 h.0, term_faultless t h.1) (arguments_faultless fits sorts terms h.2)

module _ (sig : Signature) where
  one_root_of : (left right : Option ℕ) → incomparable sig left right ≡ None
      → (s t : ℕ) → left ≡ Some s → right ≡ Some t → IsTrue (one_root sig s t)
  one_root_of None right h s t e k = cc
  one_root_of (Some x) None h s t e k = cc
  one_root_of (Some x) (Some y) h s t e k =
      let p : x ≡ s = cc in let q : y ≡ t = cc in
      subst (λ v. IsTrue (one_root sig v t)) p (subst (λ w. IsTrue (one_root sig x w)) q (kept _ _ h))

  comparable : (left right : Option ℕ)
      → ((s t : ℕ) → left ≡ Some s → right ≡ Some t → IsTrue (one_root sig s t)) → incomparable sig left right ≡ None
  comparable None right h = refl
  comparable (Some x) None h = refl
  comparable (Some x) (Some y) h = rw (h x y refl refl) refl

  abbrev FitsNumbers : Test → ℕ → Type 0
  FitsNumbers test s = (bits : ℕ) × (sort_bits sig s ≡ Some bits) × IsTrue (is_in_range test bits)

  numbers_of : (test : Test) (o : Option ℕ) → without_numbers sig o ≡ None → out_of_range sig test o ≡ None
      → (s : ℕ) → o ≡ Some s → FitsNumbers test s
  numbers_of test None h k s e = cc
  numbers_of test (Some x) h k s e = let p : x ≡ s = cc in subst (FitsNumbers test) p (go (sort_bits sig x) refl h k)
    where
      go : (b : Option ℕ) → sort_bits sig x ≡ b → unless (is_some b) sort_fault.IllSorted ≡ None
          → option_map_or (λ bits. unless (is_in_range test bits) sort_fault.OutOfRange) b None ≡ None → FitsNumbers test x
      go None e h k = cc
      go (Some bits) e h k = (bits, e, kept _ _ k)

  numbered : (test : Test) (o : Option ℕ) → ((s : ℕ) → o ≡ Some s → FitsNumbers test s)
      → (without_numbers sig o ≡ None) × (out_of_range sig test o ≡ None)
  numbered test None h = (refl, refl)
  numbered test (Some s) h = let p : FitsNumbers test s = h s refl in (rw p.1 refl, rw (p.1, p.2) refl)

  pub sorted : (vars : List Sort) (f : FormulaTree) → first_fault sig vars f ≡ None → IsWellSorted sig vars f
  sorted vars truth h = tt
  sorted vars falsity h = tt
  sorted vars (negation f) h = sorted vars f h
  sorted vars no_conjuncts h = tt
  sorted vars (conjunct f parts) h =
      let p : _ = both_none (first_fault sig vars f) _ h in (sorted vars f p.0, sorted vars parts p.1)
  sorted vars no_disjuncts h = tt
  sorted vars (disjunct f parts) h =
      let p : _ = both_none (first_fault sig vars f) _ h in (sorted vars f p.0, sorted vars parts p.1)
  sorted vars (implication f g) h =
      let p : _ = both_none (first_fault sig vars f) _ h in (sorted vars f p.0, sorted vars g p.1)
  sorted vars no_equals h = tt
  sorted vars (equals f parts) h =
      let p : _ = both_none (first_fault sig vars f) _ h in (sorted vars f p.0, sorted vars parts p.1)
  sorted vars (for_all s f) h =
      let p : _ = both_none (sort_fault_of sig s) _ h in
      (declared s (length sig.sorts) p.0, sorted (vars ++ (record { 0 = s }) ∷ []) f p.1)
  sorted vars (there_is s f) h =
      let p : _ = both_none (sort_fault_of sig s) _ h in
      (declared s (length sig.sorts) p.0, sorted (vars ++ (record { 0 = s }) ∷ []) f p.1)
  sorted vars (same a b) h =
      let p : _ = both_none (incomparable sig (sort_of sig vars a) (sort_of sig vars b)) _ h in
      let q : _ = both_none (term_fault sig vars a) _ p.1 in
      (term_sorted sig vars a q.0, term_sorted sig vars b q.1, one_root_of (sort_of sig vars a) (sort_of sig vars b) p.0)
  sorted vars (in_sort s t) h =
      let p : _ = both_none (sort_fault_of sig s) _ h in
      let q : _ = both_none (misfit (one_root sig) (sort_of sig vars t) s) _ p.1 in
      let it : IsTerm sig vars t = term_sorted sig vars t q.1 in
      (declared s (length sig.sorts) p.0, fitting (one_root sig) (sort_of sig vars t) s q.0 (has_sort sig vars t it), it)
  sorted vars (related r terms) h = go (slice_get sig.relations r) refl h
    where
      go : (o : Option RelDecl) → slice_get sig.relations r ≡ o
          → option_map_or (λ d. option_or (unless (chain_length terms == length d.args) sort_fault.Arity)
          (arguments_fault sig vars (one_root sig) d.args terms)) o (Some sort_fault.Unknown) ≡ None
          → (d : RelDecl) × (slice_get sig.relations r ≡ Some d) × AreArguments sig vars (one_root sig) d.args terms
      go None e h = cc
      go (Some d) e h =
          let p : _ = both_none (unless (chain_length terms == length d.args) sort_fault.Arity) _ h in
          (d, e, arguments_sorted sig vars (one_root sig) d.args terms (kept _ _ p.0) p.1)
  sorted vars (number_test t test) h =
      let p : _ = both_none (without_numbers sig (sort_of sig vars t)) _ h in
      let q : _ = both_none (term_fault sig vars t) _ p.1 in
      (term_sorted sig vars t q.0, numbers_of test (sort_of sig vars t) p.0 q.1)
  sorted vars (asks atom terms) h = cc

  pub faultless : (vars : List Sort) (f : FormulaTree) → IsWellSorted sig vars f → first_fault sig vars f ≡ None
  faultless vars truth h = refl
  faultless vars falsity h = refl
  faultless vars (negation f) h = faultless vars f h
  faultless vars no_conjuncts h = refl
  faultless vars (conjunct f parts) h = rw (faultless vars f h.0) (faultless vars parts h.1)
  faultless vars no_disjuncts h = refl
  faultless vars (disjunct f parts) h = rw (faultless vars f h.0) (faultless vars parts h.1)
  faultless vars (implication f g) h = rw (faultless vars f h.0) (faultless vars g h.1)
  faultless vars no_equals h = refl
  faultless vars (equals f parts) h = rw (faultless vars f h.0) (faultless vars parts h.1)
  faultless vars (for_all s f) h =
      rw (undoubted s (length sig.sorts) h.0) (faultless (vars ++ (record { 0 = s }) ∷ []) f h.1)
  faultless vars (there_is s f) h =
      rw (undoubted s (length sig.sorts) h.0) (faultless (vars ++ (record { 0 = s }) ∷ []) f h.1)
  faultless vars (same a b) h =
      rw (comparable (sort_of sig vars a) (sort_of sig vars b) h.2, term_faultless sig vars a h.0)
      (term_faultless sig vars b h.1)
  faultless vars (in_sort s t) h =
      rw (undoubted s (length sig.sorts) h.0, fitted (one_root sig) (sort_of sig vars t) s h.1) (term_faultless sig vars t h.2)
  faultless vars (related r terms) h =
      rw (h.1, eq-eqb _ _ (as_many sig vars (one_root sig) h.0.args terms h.2))
      (arguments_faultless sig vars (one_root sig) h.0.args terms h.2)
  faultless vars (number_test t test) h =
      let p : _ = numbered test (sort_of sig vars t) h.1 in rw (p.0, term_faultless sig vars t h.0) p.1
  faultless vars (asks atom terms) h = absurd h

pub faultless_is_sorted : IsFaultless
faultless_is_sorted sig vars f = (sorted sig vars f, faultless sig vars f)

pub sorted_where_ok : {A : Type 0} (result : Result A SortFault) (sig : Signature) (vars : List Sort) (f : FormulaTree)
    → result_err result ≡ first_fault sig vars f → IfOk result (λ _. IsWellSorted sig vars f)
sorted_where_ok (Ok x) sig vars f h = sorted sig vars f (sym h)
sorted_where_ok (Err fault) sig vars f h = tt

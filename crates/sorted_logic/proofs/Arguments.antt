-- How many terms a list of arguments has, and whether a variable has a sort.
use Rattle.std.specs.Prelude.{◌≡◌, ◌<◌, ◌≤◌, ◌+◌, ℕ, zero, suc, ◌==◌, nat_lt, Bool, true, false, drop, List, [], ◌∷◌, Option, Some, None, length, slice_get, refl}
use Rattle.std.specs.Option.{option_or}
use Rattle.std.proofs.Common.{ap, sym, ◌∙◌, lt-ltb, ltb-true, arith, get_or, drop-cons, eqb-true, eq-eqb}
use Rattle.std.proofs.lemmas.List.{drop_all}
use Rattle.std.proofs.lemmas.Option.{slice_get_within}
use Rattle.sorted_logic.specs.declared.fault.SortFault.{SortFault}
use Rattle.sorted_logic.specs.declared.fault.SortFault.TheVariants as sort_fault
use Rattle.sorted_logic.specs.declared.term.Sort.{Sort}
use Rattle.sorted_logic.specs.declared.term.Term.{Term}
use Rattle.sorted_logic.specs.Signature.{Signature}
use Rattle.sorted_logic.specs.Sorting.{sort_of, unless, chain_length, misfit, term_fault, arguments_fault}
use Rattle.sorted_logic.specs.Syntax.{no_terms}
use Rattle.sorted_logic.specs.Trees.{term_tree, terms_chain}

one_more : (n : ℕ) → 1 + n ≡ suc n
one_more n = omega arith

as_many_terms : (terms : List Term) → chain_length (terms_chain terms) ≡ length terms
as_many_terms [] = refl
as_many_terms (t ∷ terms) = one_more (chain_length (terms_chain terms)) ∙ ap suc (as_many_terms terms)

pub has_place : (sorts : List Sort) (x : ℕ) (s : Sort) → slice_get sorts x ≡ Some s
    → unless (nat_lt x (length sorts)) sort_fault.Unknown ≡ None
has_place sorts x s h = rw (lt-ltb x (length sorts) (slice_get_within sorts x s h)) refl

lacking : (sorts : List Sort) (x : ℕ) → x < length sorts → slice_get sorts x ≡ None → ⊥
lacking [] x l h = absurd (omega (arith, l))
lacking (s ∷ sorts) zero l h = cc
lacking (s ∷ sorts) (suc x) l h = lacking sorts x (omega (arith, l)) h

pub has_no_place : (sorts : List Sort) (x : ℕ) → slice_get sorts x ≡ None
    → unless (nat_lt x (length sorts)) sort_fault.Unknown ≡ Some sort_fault.Unknown
has_no_place sorts x h = go (nat_lt x (length sorts)) refl
  where
    go : (b : Bool) → nat_lt x (length sorts) ≡ b → unless b sort_fault.Unknown ≡ Some sort_fault.Unknown
    go true e = absurd (lacking sorts x (ltb-true x (length sorts) e) h)
    go false e = refl

module _ (sig : Signature) (vars : List Sort) (fits : ℕ → ℕ → Bool) (sorts : List Sort) (terms : List Term) where
  -- the first fault of the arguments from a place on
  abbrev from : ℕ → Option SortFault
  from i = arguments_fault sig vars fits (drop i sorts) (terms_chain (drop i terms))

  abbrev of_all : Option SortFault
  of_all = arguments_fault sig vars fits sorts (terms_chain terms)

  -- their number comes first
  abbrev first : Option SortFault
  first = option_or (unless (chain_length (terms_chain terms) == length sorts) sort_fault.Arity) of_all

  pub wrong_number : (length terms ≡ length sorts → ⊥) → Some sort_fault.Arity ≡ first
  wrong_number h = rw (as_many_terms terms) (go (length terms == length sorts) refl)
    where
      go : (b : Bool) → (length terms == length sorts) ≡ b → Some sort_fault.Arity ≡ option_or (unless b sort_fault.Arity) of_all
      go true e = absurd (h (eqb-true (length terms) (length sorts) e))
      go false e = refl

  right_number : length terms ≡ length sorts → of_all ≡ first
  right_number h = rw (as_many_terms terms, eq-eqb (length terms) (length sorts) h) refl

  -- the number is right, and the arguments before a place have no fault
  abbrev HaveNoneBefore : ℕ → Type 0
  HaveNoneBefore i = (length terms ≡ length sorts) × (from i ≡ of_all)

  module _ (i : ℕ) (s : Sort) (t : Term) (is : t ≡ get_or terms i t) (within : i < length terms)
      (before : HaveNoneBefore i) where
    abbrev misfit_at : Option SortFault
    misfit_at = misfit fits (sort_of sig vars (term_tree t)) (get_or sorts i s).0

    abbrev fault_at : Option SortFault
    fault_at = term_fault sig vars (term_tree t)

    next : i + 1 ≡ suc i
    next = omega arith

    term_at : drop i terms ≡ t ∷ drop (suc i) terms
    term_at = drop-cons terms i t within ∙ ap (λ x. x ∷ drop (suc i) terms) (sym is)

    sort_at : drop i sorts ≡ get_or sorts i s ∷ drop (suc i) sorts
    sort_at = drop-cons sorts i s (omega (arith, within, before.0))

    step : from i ≡ option_or misfit_at (option_or fault_at (from (i + 1)))
    step = rw (term_at, sort_at, next) refl

    pub misfit_here : (fault : SortFault) → Some fault ≡ misfit_at → Some fault ≡ first
    misfit_here fault h = rw (← right_number before.0, ← before.1, step, ← h) refl

    pub fault_here : (fault : SortFault) → None ≡ misfit_at → Some fault ≡ fault_at → Some fault ≡ first
    fault_here fault h k = rw (← right_number before.0, ← before.1, step, ← h, ← k) refl

    pub no_fault_here : None ≡ misfit_at → None ≡ fault_at → HaveNoneBefore (i + 1)
    no_fault_here h k = (before.0, sym (sym before.1 ∙ step ∙ rw (← h, ← k) refl))

  none_left : (left : List Sort) → arguments_fault sig vars fits left no_terms ≡ None
  none_left [] = refl
  none_left (s ∷ left) = refl

  pub no_fault : (i : ℕ) → HaveNoneBefore i → length terms ≤ i → None ≡ first
  no_fault i before h = rw (← right_number before.0, ← before.1, drop_all i terms h) (sym (none_left (drop i sorts)))

-- Well-sorted formulas, and the first fault of one that is not: from the left, and of two at one place the outer.
use Rattle.std.specs.Prelude.{◌≡◌, ◌<◌, ◌^◌, ◌+◌, ℕ, Bool, ◌&&◌, ◌==◌, if◌then◌else◌, nat_le, nat_lt, List, [], ◌∷◌, ◌++◌, Option, Some, None, IsTrue, length, slice_get, option_map, is_some}
use Rattle.std.specs.Option.{option_map_or, option_or}
use Rattle.sorted_logic.specs.declared.declarations.FuncDecl.{FuncDecl}
use Rattle.sorted_logic.specs.declared.declarations.RelDecl.{RelDecl}
use Rattle.sorted_logic.specs.declared.fault.SortFault.{SortFault}
use Rattle.sorted_logic.specs.declared.fault.SortFault.TheVariants as sort_fault
use Rattle.sorted_logic.specs.declared.formula.Test.{Test}
use Rattle.sorted_logic.specs.declared.formula.Test.TheVariants as test_of
use Rattle.sorted_logic.specs.declared.term.Sort.{Sort}
use Rattle.sorted_logic.specs.Signature.{Signature, below, root, sort_bits}
use Rattle.sorted_logic.specs.Syntax.{TermTree, variable, call, TermChain, no_terms, and_term, FormulaTree, truth, falsity, negation, no_conjuncts, conjunct, no_disjuncts, disjunct, implication, no_equals, equals, for_all, there_is, same, in_sort, related, number_test, asks}

-- the declared sort of a term, where the variables have these sorts
abbrev pub sort_of : Signature → List Sort → TermTree → Option ℕ
sort_of sig vars (variable x) = option_map (λ s. s.0) (slice_get vars x)
sort_of sig vars (call f terms) = option_map (λ d. d.result.0) (slice_get sig.functions f)

-- two sorts lie under one root
abbrev pub one_root : Signature → ℕ → ℕ → Bool
one_root sig s t = root sig s == root sig t

-- the numbers of a test have so many bits, and a range does not end before it begins
abbrev pub is_in_range : Test → ℕ → Bool
is_in_range (test_of.Masked value wildcard) bits = nat_lt value (2 ^ bits) && nat_lt wildcard (2 ^ bits)
is_in_range (test_of.Range low high) bits = nat_lt high (2 ^ bits) && nat_le low high

-- What is well-sorted.

-- a term has a declared sort that fits the required one
abbrev pub Fits : (ℕ → ℕ → Bool) → Option ℕ → ℕ → Type 0
Fits fits (Some s) required = IsTrue (fits s required)
Fits fits None required = ⊥

abbrev mutual
  pub IsTerm : Signature → List Sort → TermTree → Type 0
  IsTerm sig vars (variable x) = x < length vars
  IsTerm sig vars (call f terms) =
      (d : FuncDecl) × (slice_get sig.functions f ≡ Some d) × AreArguments sig vars (below sig) d.args terms

  -- as many well-sorted terms as sorts, each of a sort that fits
  pub AreArguments : Signature → List Sort → (ℕ → ℕ → Bool) → List Sort → TermChain → Type 0
  AreArguments sig vars fits [] no_terms = Unit {0}
  AreArguments sig vars fits (s ∷ sorts) (and_term t terms) =
      Fits fits (sort_of sig vars t) s.0 × IsTerm sig vars t × AreArguments sig vars fits sorts terms
  AreArguments sig vars fits [] (and_term t terms) = ⊥
  AreArguments sig vars fits (s ∷ sorts) no_terms = ⊥

-- an argument of a function has a sort at or below the required one; an argument of a relation or of a sort, and the two sides
-- of an equality, have sorts of one root; a number test stands on a term with numbers, and fits their bits; no policy is asked
abbrev pub IsWellSorted : Signature → List Sort → FormulaTree → Type 0
IsWellSorted sig vars truth = Unit {0}
IsWellSorted sig vars falsity = Unit {0}
IsWellSorted sig vars (negation f) = IsWellSorted sig vars f
IsWellSorted sig vars no_conjuncts = Unit {0}
IsWellSorted sig vars (conjunct f parts) = IsWellSorted sig vars f × IsWellSorted sig vars parts
IsWellSorted sig vars no_disjuncts = Unit {0}
IsWellSorted sig vars (disjunct f parts) = IsWellSorted sig vars f × IsWellSorted sig vars parts
IsWellSorted sig vars (implication f g) = IsWellSorted sig vars f × IsWellSorted sig vars g
IsWellSorted sig vars no_equals = Unit {0}
IsWellSorted sig vars (equals f parts) = IsWellSorted sig vars f × IsWellSorted sig vars parts
IsWellSorted sig vars (for_all s f) =
    (s < length sig.sorts) × IsWellSorted sig (vars ++ (record { 0 = s }) ∷ []) f
IsWellSorted sig vars (there_is s f) =
    (s < length sig.sorts) × IsWellSorted sig (vars ++ (record { 0 = s }) ∷ []) f
IsWellSorted sig vars (same a b) = IsTerm sig vars a × IsTerm sig vars b
    × ((s t : ℕ) → sort_of sig vars a ≡ Some s → sort_of sig vars b ≡ Some t → IsTrue (one_root sig s t))
IsWellSorted sig vars (in_sort s t) =
    (s < length sig.sorts) × Fits (one_root sig) (sort_of sig vars t) s × IsTerm sig vars t
IsWellSorted sig vars (related r terms) =
    (d : RelDecl) × (slice_get sig.relations r ≡ Some d) × AreArguments sig vars (one_root sig) d.args terms
IsWellSorted sig vars (number_test t test) = IsTerm sig vars t
    × ((s : ℕ) → sort_of sig vars t ≡ Some s
    → (bits : ℕ) × (sort_bits sig s ≡ Some bits) × IsTrue (is_in_range test bits))
IsWellSorted sig vars (asks atom terms) = ⊥

-- The first fault.

-- a fault, unless the condition holds
abbrev pub unless : Bool → SortFault → Option SortFault
unless holds fault = if holds then None else Some fault

abbrev pub chain_length : TermChain → ℕ
chain_length no_terms = 0
chain_length (and_term t terms) = 1 + chain_length terms

-- the fault of a term that does not fit where it stands; one without a sort has a fault of its own
abbrev pub misfit : (ℕ → ℕ → Bool) → Option ℕ → ℕ → Option SortFault
misfit fits sort required = option_map_or (λ s. unless (fits s required) sort_fault.IllSorted) sort None

abbrev mutual
  pub term_fault : Signature → List Sort → TermTree → Option SortFault
  term_fault sig vars (variable x) = unless (nat_lt x (length vars)) sort_fault.Unknown
  term_fault sig vars (call f terms) = option_map_or
      (λ d. option_or (unless (chain_length terms == length d.args) sort_fault.Arity)
      (arguments_fault sig vars (below sig) d.args terms))
      (slice_get sig.functions f) (Some sort_fault.Unknown)

  pub arguments_fault : Signature → List Sort → (ℕ → ℕ → Bool) → List Sort → TermChain → Option SortFault
  arguments_fault sig vars fits (s ∷ sorts) (and_term t terms) =
      option_or (misfit fits (sort_of sig vars t) s.0)
      (option_or (term_fault sig vars t) (arguments_fault sig vars fits sorts terms))
  arguments_fault sig vars fits [] terms = None
  arguments_fault sig vars fits (s ∷ sorts) no_terms = None

-- the two sides of an equality must have one root, where both have a sort
abbrev pub incomparable : Signature → Option ℕ → Option ℕ → Option SortFault
incomparable sig (Some s) (Some t) = unless (one_root sig s t) sort_fault.Incomparable
incomparable sig _ _ = None

-- a number test stands on numbers
abbrev pub without_numbers : Signature → Option ℕ → Option SortFault
without_numbers sig (Some s) = unless (is_some (sort_bits sig s)) sort_fault.IllSorted
without_numbers sig None = None

-- and within their bits
abbrev pub out_of_range : Signature → Test → Option ℕ → Option SortFault
out_of_range sig test (Some s) =
    option_map_or (λ bits. unless (is_in_range test bits) sort_fault.OutOfRange) (sort_bits sig s) None
out_of_range sig test None = None

abbrev pub sort_fault_of : Signature → ℕ → Option SortFault
sort_fault_of sig s = unless (nat_lt s (length sig.sorts)) sort_fault.Unknown

abbrev pub first_fault : Signature → List Sort → FormulaTree → Option SortFault
first_fault sig vars truth = None
first_fault sig vars falsity = None
first_fault sig vars (negation f) = first_fault sig vars f
first_fault sig vars no_conjuncts = None
first_fault sig vars (conjunct f parts) = option_or (first_fault sig vars f) (first_fault sig vars parts)
first_fault sig vars no_disjuncts = None
first_fault sig vars (disjunct f parts) = option_or (first_fault sig vars f) (first_fault sig vars parts)
first_fault sig vars (implication f g) = option_or (first_fault sig vars f) (first_fault sig vars g)
first_fault sig vars no_equals = None
first_fault sig vars (equals f parts) = option_or (first_fault sig vars f) (first_fault sig vars parts)
first_fault sig vars (for_all s f) =
    option_or (sort_fault_of sig s) (first_fault sig (vars ++ (record { 0 = s }) ∷ []) f)
first_fault sig vars (there_is s f) =
    option_or (sort_fault_of sig s) (first_fault sig (vars ++ (record { 0 = s }) ∷ []) f)
first_fault sig vars (same a b) = option_or (incomparable sig (sort_of sig vars a) (sort_of sig vars b))
    (option_or (term_fault sig vars a) (term_fault sig vars b))
first_fault sig vars (in_sort s t) = option_or (sort_fault_of sig s)
    (option_or (misfit (one_root sig) (sort_of sig vars t) s) (term_fault sig vars t))
first_fault sig vars (related r terms) = option_map_or
    (λ d. option_or (unless (chain_length terms == length d.args) sort_fault.Arity)
    (arguments_fault sig vars (one_root sig) d.args terms))
    (slice_get sig.relations r) (Some sort_fault.Unknown)
first_fault sig vars (number_test t test) = option_or (without_numbers sig (sort_of sig vars t))
    (option_or (term_fault sig vars t) (out_of_range sig test (sort_of sig vars t)))
first_fault sig vars (asks atom terms) = Some sort_fault.Unknown

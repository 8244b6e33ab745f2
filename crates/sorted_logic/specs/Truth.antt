-- Truth, by Tarski's cases, and falsity beside it: an infinite universe decides nothing, so neither is the other's negation.
use Rattle.std.specs.Prelude.{ℕ, Bool, true, false, not, ◌==◌, List, [], ◌∷◌, ◌++◌, ◌⊎◌, Option, Some, None, IsTrue, IsFalse, slice_get, option_map, option_and_then}
use Rattle.bit_patterns.specs.Patterns.{agrees, within}
use Rattle.sorted_logic.specs.declared.formula.Test.{Test}
use Rattle.sorted_logic.specs.declared.formula.Test.TheVariants as test_of
use Rattle.sorted_logic.specs.Syntax.{TermTree, variable, call, TermChain, no_terms, and_term, PolicyAtom, FormulaTree, truth, falsity, negation, no_conjuncts, conjunct, no_disjuncts, disjunct, implication, no_equals, equals, for_all, there_is, same, in_sort, related, number_test, asks}
use Rattle.sorted_logic.specs.Universe.{Universe}

-- the value of a term where the variables have these values; a term with a part that has no value has none
abbrev mutual
  pub value_of : Universe → List ℕ → TermTree → Option ℕ
  value_of u env (variable x) = slice_get env x
  value_of u env (call f args) = option_and_then (u.value f) (values_of u env args)

  pub values_of : Universe → List ℕ → TermChain → Option (List ℕ)
  values_of u env no_terms = Some []
  values_of u env (and_term t terms) =
      option_and_then (λ e. option_map (λ elements. e ∷ elements) (values_of u env terms)) (value_of u env t)

-- a test passes of a value, and of no value it does not
abbrev pub passes_of : {A : Type 0} → (A → Bool) → Option A → Bool
passes_of test (Some value) = test value
passes_of test None = false

abbrev pub are_same : Option ℕ → Option ℕ → Bool
are_same left right = passes_of (λ a. passes_of (λ b. a == b) right) left

-- a number passes a test
abbrev pub passes : Test → ℕ → Bool
passes (test_of.Masked value wildcard) number = agrees number value wildcard
passes (test_of.Range low high) number = within low high number

-- a decided atom has this truth value
abbrev pub IsAtom : Bool → Bool → Type 0
IsAtom holds true = IsTrue holds
IsAtom holds false = IsFalse holds

-- what a set of policies says of its atoms: when one is true of some elements, and when it is false
abbrev pub Policies : Type 1
Policies = PolicyAtom → Bool → List ℕ → Type 0

-- where there are no policies, nothing is decided, matches or applies
abbrev pub no_policies : Policies
no_policies atom value elements = IsAtom false value

abbrev pub AskedOf : Policies → PolicyAtom → Bool → Option (List ℕ) → Type 0
AskedOf policies atom value (Some elements) = policies atom value elements
AskedOf policies atom value None = IsAtom false value

-- the formula is true, or false, as the value says, where the variables have these values; a quantifier gives the next variable
-- each element of its sort
abbrev pub HasTruthValue : Universe → Policies → FormulaTree → Bool → List ℕ → Type 0
HasTruthValue u policies truth value env = IsAtom true value
HasTruthValue u policies falsity value env = IsAtom false value
HasTruthValue u policies (negation f) value env = HasTruthValue u policies f (not value) env
HasTruthValue u policies no_conjuncts value env = IsAtom true value
HasTruthValue u policies (conjunct f parts) true env =
    HasTruthValue u policies f true env × HasTruthValue u policies parts true env
HasTruthValue u policies (conjunct f parts) false env =
    HasTruthValue u policies f false env ⊎ HasTruthValue u policies parts false env
HasTruthValue u policies no_disjuncts value env = IsAtom false value
HasTruthValue u policies (disjunct f parts) true env =
    HasTruthValue u policies f true env ⊎ HasTruthValue u policies parts true env
HasTruthValue u policies (disjunct f parts) false env =
    HasTruthValue u policies f false env × HasTruthValue u policies parts false env
HasTruthValue u policies (implication f g) true env =
    HasTruthValue u policies f false env ⊎ HasTruthValue u policies g true env
HasTruthValue u policies (implication f g) false env =
    HasTruthValue u policies f true env × HasTruthValue u policies g false env
HasTruthValue u policies no_equals value env = IsAtom true value
HasTruthValue u policies (equals f parts) true env =
    (HasTruthValue u policies f true env × HasTruthValue u policies parts true env)
    ⊎ (HasTruthValue u policies f false env × HasTruthValue u policies parts false env)
HasTruthValue u policies (equals f parts) false env =
    (HasTruthValue u policies f true env × HasTruthValue u policies parts false env)
    ⊎ (HasTruthValue u policies f false env × HasTruthValue u policies parts true env)
HasTruthValue u policies (for_all s f) true env =
    (e : ℕ) → IsTrue (u.has s e) → HasTruthValue u policies f true (env ++ e ∷ [])
HasTruthValue u policies (for_all s f) false env =
    (e : ℕ) × IsTrue (u.has s e) × HasTruthValue u policies f false (env ++ e ∷ [])
HasTruthValue u policies (there_is s f) true env =
    (e : ℕ) × IsTrue (u.has s e) × HasTruthValue u policies f true (env ++ e ∷ [])
HasTruthValue u policies (there_is s f) false env =
    (e : ℕ) → IsTrue (u.has s e) → HasTruthValue u policies f false (env ++ e ∷ [])
HasTruthValue u policies (same a b) value env = IsAtom (are_same (value_of u env a) (value_of u env b)) value
HasTruthValue u policies (in_sort s t) value env = IsAtom (passes_of (u.has s) (value_of u env t)) value
HasTruthValue u policies (related r terms) value env =
    IsAtom (passes_of (u.relates r) (values_of u env terms)) value
HasTruthValue u policies (number_test t test) value env =
    IsAtom (passes_of (λ e. passes_of (passes test) (u.number e)) (value_of u env t)) value
HasTruthValue u policies (asks atom terms) value env = AskedOf policies atom value (values_of u env terms)

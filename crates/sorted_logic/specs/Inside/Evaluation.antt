-- Truth as a test, where each element is below a number.
use Rattle.std.specs.Prelude.{ℕ, zero, suc, Bool, true, false, not, ◌&&◌, ◌||◌, if◌then◌else◌, List, [], ◌∷◌, ◌++◌}
use Rattle.sorted_logic.specs.declared.scope.Scope.{Scope, Given, More'}
use Rattle.sorted_logic.specs.Syntax.{FormulaTree, truth, falsity, negation, no_conjuncts, conjunct, no_disjuncts, disjunct, implication, no_equals, equals, for_all, there_is, same, in_sort, related, number_test, asks}
use Rattle.sorted_logic.specs.Truth.{value_of, values_of, passes_of, are_same, passes}
use Rattle.sorted_logic.specs.Universe.{Universe}

-- the values of the variables in order
abbrev pub scope : Scope → List ℕ
scope (Given values) = values.now
scope (More' place before value) = scope before ++ value ∷ []

-- each number below n passes, and some number below n does
abbrev pub all_below : ℕ → (ℕ → Bool) → Bool
all_below zero test = true
all_below (suc n) test = all_below n test && test n

abbrev pub any_below : ℕ → (ℕ → Bool) → Bool
any_below zero test = false
any_below (suc n) test = any_below n test || test n

-- two tests give the same
abbrev pub agree : Bool → Bool → Bool
agree a b = if a then b else not b

abbrev pub evaluation : Universe → ℕ → FormulaTree → List ℕ → Bool
evaluation u n truth env = true
evaluation u n falsity env = false
evaluation u n (negation f) env = not (evaluation u n f env)
evaluation u n no_conjuncts env = true
evaluation u n (conjunct f parts) env = evaluation u n f env && evaluation u n parts env
evaluation u n no_disjuncts env = false
evaluation u n (disjunct f parts) env = evaluation u n f env || evaluation u n parts env
evaluation u n (implication f g) env = not (evaluation u n f env) || evaluation u n g env
evaluation u n no_equals env = true
evaluation u n (equals f parts) env = agree (evaluation u n f env) (evaluation u n parts env)
evaluation u n (for_all s f) env = all_below n (λ e. not (u.has s e) || evaluation u n f (env ++ e ∷ []))
evaluation u n (there_is s f) env = any_below n (λ e. u.has s e && evaluation u n f (env ++ e ∷ []))
evaluation u n (same a b) env = are_same (value_of u env a) (value_of u env b)
evaluation u n (in_sort s t) env = passes_of (u.has s) (value_of u env t)
evaluation u n (related r terms) env = passes_of (u.relates r) (values_of u env terms)
evaluation u n (number_test t test) env = passes_of (λ e. passes_of (passes test) (u.number e)) (value_of u env t)
evaluation u n (asks atom terms) env = false

-- Formulas about numbers: their truth on a list of numbers, one for each variable.
use Rattle.std.specs.Prelude.{◌≡◌, ℕ, Bool, true, false, not, ◌&&◌, ◌||◌, List, [], ◌∷◌, Option, Some, None, IsTrue, slice_get, is_some}
use Rattle.std.specs.Bool.{beq}
use Rattle.std.specs.Option.{option_map_or}
use Rattle.sorted_logic.specs.declared.term.Sort.{Sort}
use Rattle.sorted_logic.specs.Signature.{Signature, sort_bits}
use Rattle.sorted_logic.specs.Syntax.{TermTree, variable, call, FormulaTree, truth, falsity, negation, no_conjuncts, conjunct, no_disjuncts, disjunct, implication, no_equals, equals, same, number_test}
use Rattle.sorted_logic.specs.Truth.{passes_of, are_same, passes}
use Rattle.sorted_logic.specs.Universe.{Universe}

-- the term is a variable whose sort's elements carry numbers
abbrev pub has_number : Signature → List Sort → TermTree → Bool
has_number sig vars (variable x) = option_map_or (λ s. is_some (sort_bits sig s.0)) (slice_get vars x) false
has_number sig vars (call f terms) = false

-- the formula is made of number tests on such variables and equalities of them alone
abbrev pub is_numeric : Signature → List Sort → FormulaTree → Bool
is_numeric sig vars truth = true
is_numeric sig vars falsity = true
is_numeric sig vars (negation f) = is_numeric sig vars f
is_numeric sig vars no_conjuncts = true
is_numeric sig vars (conjunct f parts) = is_numeric sig vars f && is_numeric sig vars parts
is_numeric sig vars no_disjuncts = true
is_numeric sig vars (disjunct f parts) = is_numeric sig vars f && is_numeric sig vars parts
is_numeric sig vars (implication f g) = is_numeric sig vars f && is_numeric sig vars g
is_numeric sig vars no_equals = true
is_numeric sig vars (equals f parts) = is_numeric sig vars f && is_numeric sig vars parts
is_numeric sig vars (same a b) = has_number sig vars a && has_number sig vars b
is_numeric sig vars (number_test t test) = has_number sig vars t
is_numeric sig vars f = false

-- the number of a variable
abbrev pub number_of : List ℕ → TermTree → Option ℕ
number_of numbers (variable x) = slice_get numbers x
number_of numbers (call f terms) = None

-- the formula is true where the variables are these numbers; other atoms than tests and equalities are false
abbrev pub true_on : FormulaTree → List ℕ → Bool
true_on truth numbers = true
true_on falsity numbers = false
true_on (negation f) numbers = not (true_on f numbers)
true_on no_conjuncts numbers = true
true_on (conjunct f parts) numbers = true_on f numbers && true_on parts numbers
true_on no_disjuncts numbers = false
true_on (disjunct f parts) numbers = true_on f numbers || true_on parts numbers
true_on (implication f g) numbers = not (true_on f numbers) || true_on g numbers
true_on no_equals numbers = true
true_on (equals f parts) numbers = beq (true_on f numbers) (true_on parts numbers)
true_on (same a b) numbers = are_same (number_of numbers a) (number_of numbers b)
true_on (number_test t test) numbers = passes_of (passes test) (number_of numbers t)
true_on f numbers = false

-- each variable's value is an element of its sort, and carries the number of the list where this sort has numbers
abbrev pub Carry : Signature → Universe → List Sort → List ℕ → List ℕ → Type 0
Carry sig u [] [] [] = Unit {0}
Carry sig u (s ∷ vars) (e ∷ env) (n ∷ numbers) = IsTrue (u.has s.0 e)
    × (IsTrue (is_some (sort_bits sig s.0)) → u.number e ≡ Some n) × Carry sig u vars env numbers
Carry sig u _ _ _ = ⊥

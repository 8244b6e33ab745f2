-- The variables that occur in a term or a formula.
use Rattle.std.specs.Prelude.{◌≡◌, ℕ, List, ◌⊎◌, slice_get}
use Rattle.sorted_logic.specs.Syntax.{TermTree, variable, call, TermChain, no_terms, and_term, FormulaTree, truth, falsity, negation, no_conjuncts, conjunct, no_disjuncts, disjunct, implication, no_equals, equals, for_all, there_is, same, in_sort, related, number_test, asks}

abbrev mutual
  pub OccursInTerm : ℕ → TermTree → Type 0
  OccursInTerm x (variable y) = x ≡ y
  OccursInTerm x (call f terms) = OccursInTerms x terms

  pub OccursInTerms : ℕ → TermChain → Type 0
  OccursInTerms x no_terms = ⊥
  OccursInTerms x (and_term t terms) = OccursInTerm x t ⊎ OccursInTerms x terms

abbrev pub Occurs : ℕ → FormulaTree → Type 0
Occurs x truth = ⊥
Occurs x falsity = ⊥
Occurs x (negation f) = Occurs x f
Occurs x no_conjuncts = ⊥
Occurs x (conjunct f parts) = Occurs x f ⊎ Occurs x parts
Occurs x no_disjuncts = ⊥
Occurs x (disjunct f parts) = Occurs x f ⊎ Occurs x parts
Occurs x (implication f g) = Occurs x f ⊎ Occurs x g
Occurs x no_equals = ⊥
Occurs x (equals f parts) = Occurs x f ⊎ Occurs x parts
Occurs x (for_all s f) = Occurs x f
Occurs x (there_is s f) = Occurs x f
Occurs x (same a b) = OccursInTerm x a ⊎ OccursInTerm x b
Occurs x (in_sort s t) = OccursInTerm x t
Occurs x (related r terms) = OccursInTerms x terms
Occurs x (number_test t test) = OccursInTerm x t
Occurs x (asks atom terms) = OccursInTerms x terms

-- two lists of values agree on each variable that occurs
abbrev pub AgreeOn : FormulaTree → List ℕ → List ℕ → Type 0
AgreeOn f env other = (x : ℕ) → Occurs x f → slice_get env x ≡ slice_get other x

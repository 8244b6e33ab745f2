-- The tree of a term, and that of a formula.
use Rattle.std.specs.Prelude.{ℕ, Bool, true, false, List, [], ◌∷◌, map}
use Rattle.sorted_logic.specs.declared.formula.Formula.{Formula}
use Rattle.sorted_logic.specs.declared.formula.Formula.TheFolds.{fold-Formula}
use Rattle.sorted_logic.specs.declared.formula.Formula.TheOpen.{Formula-F}
use Rattle.sorted_logic.specs.declared.term.Term.{Term}
use Rattle.sorted_logic.specs.declared.term.Term.TheFolds.{fold-Term}
use Rattle.sorted_logic.specs.declared.term.Term.TheOpen.{Term-F}
use Rattle.sorted_logic.specs.Syntax.{TermTree, variable, call, TermChain, no_terms, and_term, PolicyAtom, decides, matches, applies, FormulaTree, truth, falsity, negation, no_conjuncts, conjunct, no_disjuncts, disjunct, implication, no_equals, equals, for_all, there_is, same, in_sort, related, number_test, asks}

abbrev pub chain : List TermTree → TermChain
chain [] = no_terms
chain (t ∷ terms) = and_term t (chain terms)

abbrev pub term_step : Term-F TermTree → TermTree
term_step (Term-F.Var x) = variable x
term_step (Term-F.Call f args) = call f.0 (chain args)

unfoldable pub term_tree : Term → TermTree
term_tree = fold-Term TermTree term_step

abbrev pub terms_chain : List Term → TermChain
terms_chain terms = chain (map term_tree terms)

abbrev pub conjunction : List FormulaTree → FormulaTree
conjunction [] = no_conjuncts
conjunction (f ∷ parts) = conjunct f (conjunction parts)

abbrev pub disjunction : List FormulaTree → FormulaTree
disjunction [] = no_disjuncts
disjunction (f ∷ parts) = disjunct f (disjunction parts)

abbrev pub equivalence : List FormulaTree → FormulaTree
equivalence [] = no_equals
equivalence (f ∷ parts) = equals f (equivalence parts)

abbrev pub rule_atom : Bool → ℕ → ℕ → PolicyAtom
rule_atom true policy rule = applies policy rule
rule_atom false policy rule = matches policy rule

abbrev pub formula_step : Formula-F FormulaTree → FormulaTree
formula_step Formula-F.True = truth
formula_step Formula-F.False = falsity
formula_step (Formula-F.Not body) = negation body
formula_step (Formula-F.And parts) = conjunction parts
formula_step (Formula-F.Or parts) = disjunction parts
formula_step (Formula-F.Implies left right) = implication left right
formula_step (Formula-F.Iff parts) = equivalence parts
formula_step (Formula-F.Forall s body) = for_all s.0 body
formula_step (Formula-F.Exists s body) = there_is s.0 body
formula_step (Formula-F.Equal left right) = same (term_tree left) (term_tree right)
formula_step (Formula-F.InSort s of) = in_sort s.0 (term_tree of)
formula_step (Formula-F.Holds r args) = related r.0 (terms_chain args)
formula_step (Formula-F.NumberTest of test) = number_test (term_tree of) test
formula_step (Formula-F.Decides policy decision args) = asks (decides policy decision) (terms_chain args)
formula_step (Formula-F.RuleIs policy rule which args) = asks (rule_atom which policy rule) (terms_chain args)

unfoldable pub formula_tree : Formula → FormulaTree
formula_tree = fold-Formula FormulaTree formula_step

-- The tree of each kind of term and of formula.
use Rattle.std.proofs.Common.{◌≡◌, ℕ, Bool, List, sym, ap, ◌∙◌, map}
use Rattle.sorted_logic.specs.declared.formula.Formula.{Formula}
use Rattle.sorted_logic.specs.declared.formula.Formula.TheFolds.{fold-roll-Formula}
use Rattle.sorted_logic.specs.declared.formula.Formula.TheOpen.{Formula-F}
use Rattle.sorted_logic.specs.declared.formula.Formula.TheVariants as formula
use Rattle.sorted_logic.specs.declared.formula.Test.{Test}
use Rattle.sorted_logic.specs.declared.term.Func.{Func}
use Rattle.sorted_logic.specs.declared.term.Rel.{Rel}
use Rattle.sorted_logic.specs.declared.term.Sort.{Sort}
use Rattle.sorted_logic.specs.declared.term.Term.{Term}
use Rattle.sorted_logic.specs.declared.term.Term.TheFolds.{fold-roll-Term}
use Rattle.sorted_logic.specs.declared.term.Term.TheOpen.{Term-F}
use Rattle.sorted_logic.specs.declared.term.Term.TheVariants as term
use Rattle.sorted_logic.specs.Syntax.{TermTree, variable, call, decides, FormulaTree, truth, falsity, negation, implication, for_all, there_is, same, in_sort, related, number_test, asks}
use Rattle.sorted_logic.specs.Trees.{term_step, term_tree, terms_chain, conjunction, disjunction, equivalence, rule_atom, formula_step, formula_tree}

pub tree_of_variable : (x : ℕ) → term_tree (term.Var x) ≡ variable x
unfolding term_tree
tree_of_variable x = ap term_tree (sym (term.rolls-Var x)) ∙ fold-roll-Term TermTree term_step (Term-F.Var x)

pub tree_of_call : (f : Func) (args : List Term) → term_tree (term.Call f args) ≡ call f.0 (terms_chain args)
unfolding term_tree
tree_of_call f args = ap term_tree (sym (term.rolls-Call f args)) ∙ fold-roll-Term TermTree term_step (Term-F.Call f args)

pub tree_of_true : formula_tree formula.True ≡ truth
unfolding formula_tree
tree_of_true = ap formula_tree (sym formula.rolls-True) ∙ fold-roll-Formula FormulaTree formula_step Formula-F.True

pub tree_of_false : formula_tree formula.False ≡ falsity
unfolding formula_tree
tree_of_false = ap formula_tree (sym formula.rolls-False) ∙ fold-roll-Formula FormulaTree formula_step Formula-F.False

pub tree_of_not : (body : Formula) → formula_tree (formula.Not body) ≡ negation (formula_tree body)
unfolding formula_tree
tree_of_not body = ap formula_tree (sym (formula.rolls-Not body)) ∙ fold-roll-Formula FormulaTree formula_step (Formula-F.Not body)

pub tree_of_and : (parts : List Formula) → formula_tree (formula.And parts) ≡ conjunction (map formula_tree parts)
unfolding formula_tree
tree_of_and parts = ap formula_tree (sym (formula.rolls-And parts)) ∙ fold-roll-Formula FormulaTree formula_step (Formula-F.And parts)

pub tree_of_or : (parts : List Formula) → formula_tree (formula.Or parts) ≡ disjunction (map formula_tree parts)
unfolding formula_tree
tree_of_or parts = ap formula_tree (sym (formula.rolls-Or parts)) ∙ fold-roll-Formula FormulaTree formula_step (Formula-F.Or parts)

pub tree_of_implies : (left right : Formula) → formula_tree (formula.Implies left right) ≡ implication (formula_tree left) (formula_tree right)
unfolding formula_tree
tree_of_implies left right = ap formula_tree (sym (formula.rolls-Implies left right)) ∙ fold-roll-Formula FormulaTree formula_step (Formula-F.Implies left right)

pub tree_of_iff : (parts : List Formula) → formula_tree (formula.Iff parts) ≡ equivalence (map formula_tree parts)
unfolding formula_tree
tree_of_iff parts = ap formula_tree (sym (formula.rolls-Iff parts)) ∙ fold-roll-Formula FormulaTree formula_step (Formula-F.Iff parts)

pub tree_of_forall : (s : Sort) (body : Formula) → formula_tree (formula.Forall s body) ≡ for_all s.0 (formula_tree body)
unfolding formula_tree
tree_of_forall s body = ap formula_tree (sym (formula.rolls-Forall s body)) ∙ fold-roll-Formula FormulaTree formula_step (Formula-F.Forall s body)

pub tree_of_exists : (s : Sort) (body : Formula) → formula_tree (formula.Exists s body) ≡ there_is s.0 (formula_tree body)
unfolding formula_tree
tree_of_exists s body = ap formula_tree (sym (formula.rolls-Exists s body)) ∙ fold-roll-Formula FormulaTree formula_step (Formula-F.Exists s body)

pub tree_of_equal : (left right : Term) → formula_tree (formula.Equal left right) ≡ same (term_tree left) (term_tree right)
unfolding formula_tree
tree_of_equal left right = ap formula_tree (sym (formula.rolls-Equal left right)) ∙ fold-roll-Formula FormulaTree formula_step (Formula-F.Equal left right)

pub tree_of_in_sort : (s : Sort) (t : Term) → formula_tree (formula.InSort s t) ≡ in_sort s.0 (term_tree t)
unfolding formula_tree
tree_of_in_sort s t = ap formula_tree (sym (formula.rolls-InSort s t)) ∙ fold-roll-Formula FormulaTree formula_step (Formula-F.InSort s t)

pub tree_of_holds : (r : Rel) (args : List Term) → formula_tree (formula.Holds r args) ≡ related r.0 (terms_chain args)
unfolding formula_tree
tree_of_holds r args = ap formula_tree (sym (formula.rolls-Holds r args)) ∙ fold-roll-Formula FormulaTree formula_step (Formula-F.Holds r args)

pub tree_of_number_test : (t : Term) (test : Test) → formula_tree (formula.NumberTest t test) ≡ number_test (term_tree t) test
unfolding formula_tree
tree_of_number_test t test = ap formula_tree (sym (formula.rolls-NumberTest t test)) ∙ fold-roll-Formula FormulaTree formula_step (Formula-F.NumberTest t test)

pub tree_of_decides : (policy decision : ℕ) (args : List Term) → formula_tree (formula.Decides policy decision args) ≡ asks (decides policy decision) (terms_chain args)
unfolding formula_tree
tree_of_decides policy decision args = ap formula_tree (sym (formula.rolls-Decides policy decision args)) ∙ fold-roll-Formula FormulaTree formula_step (Formula-F.Decides policy decision args)

pub tree_of_rule_is : (policy rule : ℕ) (which : Bool) (args : List Term) → formula_tree (formula.RuleIs policy rule which args) ≡ asks (rule_atom which policy rule) (terms_chain args)
unfolding formula_tree
tree_of_rule_is policy rule which args = ap formula_tree (sym (formula.rolls-RuleIs policy rule which args)) ∙ fold-roll-Formula FormulaTree formula_step (Formula-F.RuleIs policy rule which args)

pub ruleset term_trees = (tree_of_variable, tree_of_call)

pub ruleset formula_trees = (tree_of_true, tree_of_false, tree_of_not, tree_of_and, tree_of_or, tree_of_implies, tree_of_iff, tree_of_forall, tree_of_exists, tree_of_equal, tree_of_in_sort, tree_of_holds, tree_of_number_test, tree_of_decides, tree_of_rule_is)

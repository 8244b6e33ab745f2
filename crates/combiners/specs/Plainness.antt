-- Plain policies: those whose formulas have no quantifier.
use Rattle.std.specs.Prelude.{Bool, true, false, not, ◌&&◌, ◌||◌, List, [], ◌∷◌}
use Rattle.std.specs.List.{list_all}
use Rattle.sorted_logic.specs.declared.term.Sort.{Sort}
use Rattle.sorted_logic.specs.Syntax.{FormulaTree, truth, falsity, negation, no_conjuncts, conjunct, no_disjuncts, disjunct, implication, no_equals, equals, for_all, there_is, same, in_sort, related, number_test, asks}
use Rattle.combiners.specs.Tree.{PlainRule, PolicyTree, with_rules, with_children, PolicyChain, no_children, and_child}

abbrev pub has_quantifier : FormulaTree → Bool
has_quantifier truth = false
has_quantifier falsity = false
has_quantifier (negation f) = has_quantifier f
has_quantifier no_conjuncts = false
has_quantifier (conjunct f parts) = has_quantifier f || has_quantifier parts
has_quantifier no_disjuncts = false
has_quantifier (disjunct f parts) = has_quantifier f || has_quantifier parts
has_quantifier (implication f g) = has_quantifier f || has_quantifier g
has_quantifier no_equals = false
has_quantifier (equals f parts) = has_quantifier f || has_quantifier parts
has_quantifier (for_all s f) = true
has_quantifier (there_is s f) = true
has_quantifier (same a b) = false
has_quantifier (in_sort s t) = false
has_quantifier (related r terms) = false
has_quantifier (number_test t test) = false
has_quantifier (asks atom terms) = false

abbrev pub has_none : List Sort → Bool
has_none [] = true
has_none (s ∷ sorts) = false

-- no local variable, and no quantifier in the body
abbrev pub is_plain_rule : PlainRule → Bool
is_plain_rule rule = has_none rule.locals && not (has_quantifier rule.body)

-- a policy is plain where all its rules are, and those of its children, of their children and so on
abbrev mutual
  pub is_plain : PolicyTree → Bool
  is_plain (with_rules comb rules) = list_all is_plain_rule rules
  is_plain (with_children comb decisions chain) = are_plain chain

  pub are_plain : PolicyChain → Bool
  are_plain no_children = true
  are_plain (and_child tree chain) = is_plain tree && are_plain chain

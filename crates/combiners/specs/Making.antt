-- The formulas of what policies decide, and of when rules match and apply.
use Rattle.std.specs.Prelude.{ℕ, zero, suc, ◌==◌, if◌then◌else◌, List, [], ◌∷◌, ◌++◌, Option, Some, None, map, filter, take, slice_get}
use Rattle.std.specs.List.{flat_map}
use Rattle.sorted_logic.specs.declared.term.Sort.{Sort}
use Rattle.sorted_logic.specs.Syntax.{FormulaTree, falsity, negation, there_is}
use Rattle.sorted_logic.specs.Trees.{conjunction, disjunction}
use Rattle.combiners.specs.declared.policy.Comb.{Comb}
use Rattle.combiners.specs.declared.policy.Comb.TheVariants as comb_of
use Rattle.combiners.specs.Combining.{is_before}
use Rattle.combiners.specs.Tree.{PlainRule, PolicyTree, with_rules, with_children, PolicyChain, no_children, and_child}

abbrev pub both : FormulaTree → FormulaTree → FormulaTree
both left right = conjunction (left ∷ right ∷ [])

abbrev pub either : FormulaTree → FormulaTree → FormulaTree
either left right = disjunction (left ∷ right ∷ [])

-- an OR of nothing is FALSE
abbrev pub any_of : List FormulaTree → FormulaTree
any_of [] = falsity
any_of (f ∷ parts) = disjunction (f ∷ parts)

-- Rules.

-- the body under an EXISTS for each local variable, in order
abbrev pub under : List Sort → FormulaTree → FormulaTree
under [] body = body
under (s ∷ sorts) body = there_is s.0 (under sorts body)

abbrev pub matching : PlainRule → FormulaTree
matching rule = under rule.locals rule.body

-- those of the rules of a decision, and those of the rules of the decisions before it
abbrev pub matching_of : ℕ → List PlainRule → List FormulaTree
matching_of d rules = map matching (filter (λ rule. rule.decision == d) rules)

abbrev pub matching_before : List ℕ → ℕ → List PlainRule → List FormulaTree
matching_before order d rules = map matching (filter (λ rule. is_before order rule.decision d) rules)

-- a rule before what the others say
abbrev pub with_rule : ℕ → PlainRule → FormulaTree → FormulaTree
with_rule d rule rest =
    if rule.decision == d then either (matching rule) rest else both (negation (matching rule)) rest

-- from the last rule to the first
abbrev pub first_rule : ℕ → List PlainRule → FormulaTree
first_rule d [] = falsity
first_rule d (rule ∷ rules) = with_rule d rule (first_rule d rules)

abbrev pub decision_of_rules : Comb → List PlainRule → ℕ → FormulaTree
decision_of_rules comb_of.First rules d = first_rule d rules
decision_of_rules (comb_of.Over order) rules d =
    both (any_of (matching_of d rules)) (negation (any_of (matching_before order d rules)))
decision_of_rules comb_of.All rules d = any_of (matching_of d rules)

-- Children: what each decides is a formula for each decision.

abbrev pub decisions_below : ℕ → List ℕ
decisions_below zero = []
decisions_below (suc n) = decisions_below n ++ n ∷ []

abbrev pub decisions_before : List ℕ → ℕ → ℕ → List ℕ
decisions_before order decisions d = filter (λ e. is_before order e d) (decisions_below decisions)

-- a child before what the others say, where these are all decisions
abbrev pub with_child : List ℕ → ℕ → (ℕ → FormulaTree) → FormulaTree → FormulaTree
with_child all d child rest = either (child d) (both (negation (any_of (map child all))) rest)

-- from the last child to the first
abbrev pub first_child : ℕ → ℕ → List (ℕ → FormulaTree) → FormulaTree
first_child decisions d [] = falsity
first_child decisions d (child ∷ children) =
    with_child (decisions_below decisions) d child (first_child decisions d children)

abbrev pub decision_of_children : Comb → ℕ → List (ℕ → FormulaTree) → ℕ → FormulaTree
decision_of_children comb_of.First decisions children d = first_child decisions d children
decision_of_children (comb_of.Over order) decisions children d = both (any_of (map (λ child. child d) children))
    (negation (any_of (flat_map (λ child. map child (decisions_before order decisions d)) children)))
decision_of_children comb_of.All decisions children d = any_of (map (λ child. child d) children)

-- Policies.

-- the formula of a decision
abbrev mutual
  pub decision_tree : PolicyTree → ℕ → FormulaTree
  decision_tree (with_rules comb rules) d = decision_of_rules comb rules d
  decision_tree (with_children comb decisions chain) d =
      decision_of_children comb decisions (member_trees chain) d

  pub member_trees : PolicyChain → List (ℕ → FormulaTree)
  member_trees no_children = []
  member_trees (and_child tree chain) = (λ d. decision_tree tree d) ∷ member_trees chain

-- the formula of when a rule of a policy matches; where there is none, never
abbrev pub matches_of : Option PlainRule → FormulaTree
matches_of (Some rule) = matching rule
matches_of None = falsity

abbrev pub matches_tree : PolicyTree → ℕ → FormulaTree
matches_tree (with_rules comb rules) place = matches_of (slice_get rules place)
matches_tree (with_children comb decisions chain) place = falsity

-- and of when it applies
abbrev pub applies_to : Comb → List PlainRule → ℕ → PlainRule → FormulaTree
applies_to comb_of.First rules place rule =
    both (matching rule) (negation (any_of (map matching (take place rules))))
applies_to (comb_of.Over order) rules place rule =
    both (matching rule) (negation (any_of (matching_before order rule.decision rules)))
applies_to comb_of.All rules place rule = matching rule

abbrev pub applies_of : Comb → List PlainRule → ℕ → Option PlainRule → FormulaTree
applies_of comb rules place (Some rule) = applies_to comb rules place rule
applies_of comb rules place None = falsity

abbrev pub applies_tree : PolicyTree → ℕ → FormulaTree
applies_tree (with_rules comb rules) place = applies_of comb rules place (slice_get rules place)
applies_tree (with_children comb decisions chain) place = falsity

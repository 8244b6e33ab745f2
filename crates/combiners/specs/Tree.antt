-- A policy with its children unfolded, and the tree of each policy of a set.
use Rattle.std.specs.Prelude.{ℕ, zero, suc, List, [], ◌∷◌, length, map, slice_get}
use Rattle.std.specs.Option.{option_map_or}
use Rattle.sorted_logic.specs.declared.term.Sort.{Sort}
use Rattle.sorted_logic.specs.Syntax.{FormulaTree}
use Rattle.sorted_logic.specs.Trees.{formula_tree}
use Rattle.combiners.specs.declared.policy.Comb.{Comb}
use Rattle.combiners.specs.declared.policy.Comb.TheVariants as comb_of
use Rattle.combiners.specs.declared.policy.Parts.{Parts}
use Rattle.combiners.specs.declared.policy.Parts.TheVariants as parts_of
use Rattle.combiners.specs.declared.policy.Policy.{Policy}
use Rattle.combiners.specs.declared.policy.PolicySet.{PolicySet}
use Rattle.combiners.specs.declared.policy.Rule.{Rule}
use Rattle.combiners.specs.declared.policy.Variable.{Variable}

-- what counts of a rule: its decision, the sorts of its local variables, and its body
pub record PlainRule : Type 0 where
  pub decision : ℕ
  pub locals : List Sort
  pub body : FormulaTree

-- a policy has a combiner, and rules, or so many decisions and children
mutual
  pub data PolicyTree : Type 0 where
    with_rules : Comb → List PlainRule → PolicyTree
    with_children : Comb → ℕ → PolicyChain → PolicyTree

  pub data PolicyChain : Type 0 where
    no_children : PolicyChain
    and_child : PolicyTree → PolicyChain → PolicyChain

abbrev pub sorts_of : List Variable → List Sort
sorts_of variables = map (λ v. v.sort) variables

abbrev pub plain_rule : Rule → PlainRule
plain_rule rule = record { decision = rule.decision; locals = sorts_of rule.locals; body = formula_tree rule.body }

abbrev pub plain_rules : List Rule → List PlainRule
plain_rules rules = map plain_rule rules

abbrev pub child_chain : List PolicyTree → PolicyChain
child_chain [] = no_children
child_chain (tree ∷ trees) = and_child tree (child_chain trees)

-- the tree of a policy, given those of its children
abbrev pub tree_from : (ℕ → PolicyTree) → Comb → ℕ → Parts → PolicyTree
tree_from child comb decisions (parts_of.Rules rules) = with_rules comb (plain_rules rules)
tree_from child comb decisions (parts_of.Children places) =
    with_children comb decisions (child_chain (map child places))

abbrev pub policy_tree : (ℕ → PolicyTree) → Policy → PolicyTree
policy_tree child policy = tree_from child policy.comb (length policy.decisions) policy.parts

-- a policy that never decides
abbrev pub empty_tree : PolicyTree
empty_tree = with_rules comb_of.All []

-- the tree of the policy at a place, so many levels deep
abbrev pub tree_within : PolicySet → ℕ → ℕ → PolicyTree
tree_within set zero place = empty_tree
tree_within set (suc levels) place =
    option_map_or (policy_tree (tree_within set levels)) (slice_get set.policies place) empty_tree

-- where no policy lies below itself, there are at most as many levels as policies
abbrev pub tree_of : PolicySet → ℕ → PolicyTree
tree_of set place = tree_within set (length set.policies) place

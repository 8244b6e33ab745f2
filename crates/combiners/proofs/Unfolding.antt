-- The trees of policies, a level at a time.
use Rattle.std.proofs.Common.{◌≡◌, ◌≢◌, ◌<◌, ◌≤◌, ◌-◌, ℕ, zero, suc, List, [], ◌∷◌, Some, None, length, map, drop, slice_get, slice_index, refl, sym, ap, ◌∙◌, arith}
use Rattle.std.proofs.Math.Seq.{drop-cons}
use Rattle.std.proofs.lemmas.Option.{slice_get_within}
use Rattle.sorted_logic.specs.Syntax.{FormulaTree}
use Rattle.combiners.specs.declared.policy.Parts.TheVariants as parts_of
use Rattle.combiners.specs.declared.policy.Policy.{Policy}
use Rattle.combiners.specs.declared.policy.PolicySet.{PolicySet}
use Rattle.combiners.specs.declared.policy.Rule.{Rule}
use Rattle.combiners.specs.Inside.ChildFormulas.{child_formulas}
use Rattle.combiners.specs.Making.{decision_of_children, decision_of_rules, decision_tree, decisions_below, first_child, member_trees, with_child}
use Rattle.combiners.specs.Tree.{child_chain, empty_tree, plain_rules, policy_tree, tree_from, tree_of, tree_within, with_children, with_rules}

-- the tree of a policy at some level
pub tree_at : (set : PolicySet) (levels place : ℕ) (policy : Policy) → levels ≢ 0 → slice_get set.policies place ≡ Some policy
    → tree_within set levels place ≡ policy_tree (tree_within set (levels - 1)) policy
tree_at set zero place policy n h = absurd (n refl)
tree_at set (suc levels) place policy n h = let e : suc levels - 1 ≡ levels = omega arith in rw e (rw h refl)

module _ (set : PolicySet) (levels place : ℕ) (policy : Policy) (n : levels ≢ 0)
    (h : slice_get set.policies place ≡ Some policy) where
  pub tree_at_rules : (rules : List Rule) → policy.parts ≡ parts_of.Rules rules
      → tree_within set levels place ≡ with_rules policy.comb (plain_rules rules)
  tree_at_rules rules p = rw (tree_at set levels place policy n h)
      (ap (tree_from (tree_within set (levels - 1)) policy.comb (length policy.decisions)) p)

  pub tree_at_children : (places : List ℕ) → policy.parts ≡ parts_of.Children places → tree_within set levels place
      ≡ with_children policy.comb (length policy.decisions) (child_chain (map (tree_within set (levels - 1)) places))
  tree_at_children places p = rw (tree_at set levels place policy n h)
      (ap (tree_from (tree_within set (levels - 1)) policy.comb (length policy.decisions)) p)

pub tree_of_rules : (set : PolicySet) (place : ℕ) (policy : Policy) (rules : List Rule) → slice_get set.policies place
    ≡ Some policy
    → policy.parts ≡ parts_of.Rules rules → tree_of set place ≡ with_rules policy.comb (plain_rules rules)
tree_of_rules set place policy rules h p =
    let l = slice_get_within set.policies place policy h in
    tree_at_rules set (length set.policies) place policy (λ z. absurd (omega (arith, l, z))) h rules p

pub tree_of_children : (set : PolicySet) (place : ℕ) (policy : Policy) (places : List ℕ) → slice_get set.policies place ≡ Some policy
    → policy.parts ≡ parts_of.Children places → tree_of set place ≡ with_children policy.comb (length policy.decisions)
    (child_chain (map (tree_within set (length set.policies - 1)) places))
tree_of_children set place policy places h p =
    let l = slice_get_within set.policies place policy h in
    tree_at_children set (length set.policies) place policy (λ z. absurd (omega (arith, l, z))) h places p

-- where there is no policy, nothing is decided
pub tree_of_none : (set : PolicySet) (place : ℕ) → slice_get set.policies place ≡ None → tree_of set place ≡ empty_tree
tree_of_none set place h = go (length set.policies)
  where
    go : (levels : ℕ) → tree_within set levels place ≡ empty_tree
    go zero = refl
    go (suc levels) = rw h refl

pub members : (set : PolicySet) (levels : ℕ) (places : List ℕ)
    → member_trees (child_chain (map (tree_within set levels) places)) ≡ child_formulas set levels places
members set levels [] = refl
members set levels (place ∷ places) = ap (λ rest. (λ d. decision_tree (tree_within set levels place) d) ∷ rest)
    (members set levels places)

module _ (set : PolicySet) (levels place d : ℕ) (policy : Policy) (n : levels ≢ 0)
    (h : slice_get set.policies place ≡ Some policy) where
  pub decision_at_rules : (rules : List Rule) → policy.parts ≡ parts_of.Rules rules
      → decision_of_rules policy.comb (plain_rules rules) d ≡ decision_tree (tree_within set levels place) d
  decision_at_rules rules p = rw (tree_at_rules set levels place policy n h rules p) refl

  pub decision_at_children : (places : List ℕ) → policy.parts ≡ parts_of.Children places
      → decision_of_children policy.comb (length policy.decisions) (child_formulas set (levels - 1) places) d
      ≡ decision_tree (tree_within set levels place) d
  decision_at_children places p = rw (tree_at_children set levels place policy n h places p)
      (ap (λ children. decision_of_children policy.comb (length policy.decisions) children d)
      (sym (members set (levels - 1) places)))

-- one child more
pub first_step : (set : PolicySet) (levels decisions d at : ℕ) (places all : List ℕ) (rest : FormulaTree) → 0 < at
    → at ≤ length places
    → all ≡ decisions_below decisions → rest ≡ first_child decisions d (child_formulas set levels (drop at places))
    → with_child all d (λ e. decision_tree (tree_within set levels (slice_index places (at - 1))) e) rest
    ≡ first_child decisions d (child_formulas set levels (drop (at - 1) places))
first_step set levels decisions d at places all rest l m a r =
    let e : suc (at - 1) ≡ at = omega arith in
    let split : drop (at - 1) places ≡ slice_index places (at - 1) ∷ drop at places =
    drop-cons places (at - 1) 0 (omega arith) ∙ ap (λ k. slice_index places (at - 1) ∷ drop k places) e in
    rw (split, a, r) refl

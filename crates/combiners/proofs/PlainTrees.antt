-- A policy with children is plain where all of them are.
use Rattle.std.proofs.Common.{◌≡◌, ◌≢◌, ◌-◌, ◌&&◌, ℕ, List, [], ◌∷◌, Some, map, slice_get, refl, sym, ap, ◌∙◌}
use Rattle.std.specs.List.{list_all}
use Rattle.combiners.specs.declared.policy.Parts.TheVariants as parts_of
use Rattle.combiners.specs.declared.policy.Policy.{Policy}
use Rattle.combiners.specs.declared.policy.PolicySet.{PolicySet}
use Rattle.combiners.specs.Plainness.{are_plain, is_plain}
use Rattle.combiners.specs.Tree.{PolicyTree, child_chain, tree_within}
use Rattle.combiners.proofs.Unfolding.{tree_at_children}

plain_members : (tree : ℕ → PolicyTree) (places : List ℕ)
    → are_plain (child_chain (map tree places)) ≡ list_all (λ place. is_plain (tree place)) places
plain_members tree [] = refl
plain_members tree (place ∷ places) = ap (λ others. is_plain (tree place) && others) (plain_members tree places)

pub plain_at_children : (set : PolicySet) (levels place : ℕ) (policy : Policy) (places : List ℕ) → levels ≢ 0
    → slice_get set.policies place ≡ Some policy → policy.parts ≡ parts_of.Children places
    → list_all (λ child. is_plain (tree_within set (levels - 1) child)) places ≡ is_plain (tree_within set levels place)
plain_at_children set levels place policy places n h p = sym (ap is_plain (tree_at_children set levels place policy n h places p)
    ∙ plain_members (tree_within set (levels - 1)) places)

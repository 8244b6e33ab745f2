-- The trees of a lawful set are unfolded all the way down.
use Rattle.std.proofs.Common.{◌≡◌, ℕ, zero, suc, List, [], ◌∷◌, Option, Some, None, length, map, slice_get, refl, ap, ap₂, ◌∙◌}
use Rattle.std.proofs.lemmas.Option.{slice_get_within}
use Rattle.std.specs.List.{AllByRecursion}
use Rattle.std.specs.Option.{option_map_or}
use Rattle.combiners.specs.declared.policy.Comb.{Comb}
use Rattle.combiners.specs.declared.policy.Parts.{Parts}
use Rattle.combiners.specs.declared.policy.Parts.TheVariants as parts_of
use Rattle.combiners.specs.declared.policy.Policy.{Policy}
use Rattle.combiners.specs.declared.policy.PolicySet.{PolicySet}
use Rattle.combiners.specs.Laws.{IsUnfolded}
use Rattle.combiners.specs.Lawful.{EndsWithin, children_in}
use Rattle.combiners.specs.Tree.{PolicyTree, child_chain, empty_tree, policy_tree, tree_from, tree_within, with_children}

-- children alone matter
from_alike : (child other : ℕ → PolicyTree) (comb : Comb) (n : ℕ) (parts : Parts)
    → AllByRecursion (λ place. child place ≡ other place) (children_in parts) → tree_from child comb n parts
    ≡ tree_from other comb n parts
from_alike child other comb n (parts_of.Rules rules) h = refl
from_alike child other comb n (parts_of.Children places) h = ap (λ trees. with_children comb n (child_chain trees))
    (alike places h)
  where
    alike : (places : List ℕ) → AllByRecursion (λ place. child place ≡ other place) places → map child places ≡ map other places
    alike [] h = refl
    alike (place ∷ places) h = ap₂ (λ x xs. x ∷ xs) h.0 (alike places h.1)

all_along : (P Q : ℕ → Type 0) → ((place : ℕ) → P place → Q place) → (places : List ℕ) → AllByRecursion P places
    → AllByRecursion Q places
all_along P Q f [] h = tt
all_along P Q f (place ∷ places) h = (f place h.0, all_along P Q f places h.1)

-- one level more changes nothing where each way down has ended
module _ (set : PolicySet) where
  stable : (levels place : ℕ) → EndsWithin set levels place → tree_within set levels place ≡ tree_within set (suc levels) place
  stable zero place h = absurd h
  stable (suc levels) place h = go (slice_get set.policies place) h (stable levels)
    where
      go : (found : Option Policy)
          → AllByRecursion (EndsWithin set levels) (option_map_or (λ policy. children_in policy.parts) found [])
          → ((child : ℕ) → EndsWithin set levels child → tree_within set levels child ≡ tree_within set (suc levels) child)
          → option_map_or (policy_tree (tree_within set levels)) found empty_tree
          ≡ option_map_or (policy_tree (tree_within set (suc levels))) found empty_tree
      go None h rec = refl
      go (Some policy) h rec = from_alike (tree_within set levels) (tree_within set (suc levels)) policy.comb
          (length policy.decisions)
          policy.parts (all_along (EndsWithin set levels)
          (λ child. tree_within set levels child ≡ tree_within set (suc levels) child) rec
          (children_in policy.parts) h)

  one_more : (levels place : ℕ) (policy : Policy) → slice_get set.policies place ≡ Some policy
      → tree_within set (suc levels) place ≡ policy_tree (tree_within set levels) policy
  one_more levels place policy e = rw e refl

pub unfolded : IsUnfolded
unfolded sig set lawful place policy e =
    stable set (length set.policies) place (lawful.acyclic place (slice_get_within set.policies place policy e))
    ∙ one_more set (length set.policies) place policy e

-- What holds of policies in every universe.
use Rattle.std.specs.Prelude.{◌≡◌, ◌↔◌, ℕ, Bool, List, Some, slice_get}
use Rattle.sorted_logic.specs.Laws.{NeverContradict}
use Rattle.sorted_logic.specs.Signature.{Signature}
use Rattle.sorted_logic.specs.Syntax.{decides, matches, applies}
use Rattle.sorted_logic.specs.Truth.{no_policies, HasTruthValue}
use Rattle.sorted_logic.specs.Universe.{Universe}
use Rattle.combiners.specs.declared.policy.Policy.{Policy}
use Rattle.combiners.specs.declared.policy.PolicySet.{PolicySet}
use Rattle.combiners.specs.Combining.{policies_of}
use Rattle.combiners.specs.Lawful.{IsLawful}
use Rattle.combiners.specs.Making.{decision_tree, matches_tree, applies_tree}
use Rattle.combiners.specs.Tree.{policy_tree, tree_of}

-- the formula of a decision is true exactly where the policy makes the decision, and false exactly where it does not; its free
-- variables are the policy's, so the arguments are the values of its variables
abbrev pub IsDecisionRight : Universe → Type 0
IsDecisionRight u = (set : PolicySet) (policy d : ℕ) (value : Bool) (elements : List ℕ)
    → HasTruthValue u no_policies (decision_tree (tree_of set policy) d) value elements
    ↔ policies_of u set (decides policy d) value elements

-- so is that of when a rule matches
abbrev pub IsMatchRight : Universe → Type 0
IsMatchRight u = (set : PolicySet) (policy rule : ℕ) (value : Bool) (elements : List ℕ)
    → HasTruthValue u no_policies (matches_tree (tree_of set policy) rule) value elements
    ↔ policies_of u set (matches policy rule) value elements

-- and that of when it applies
abbrev pub IsApplicationRight : Universe → Type 0
IsApplicationRight u = (set : PolicySet) (policy rule : ℕ) (value : Bool) (elements : List ℕ)
    → HasTruthValue u no_policies (applies_tree (tree_of set policy) rule) value elements
    ↔ policies_of u set (applies policy rule) value elements

-- nothing is both decided and not decided, and so on
abbrev pub IsConsistent : Universe → Type 0
IsConsistent u = (set : PolicySet) → NeverContradict (policies_of u set)

-- the tree of a policy of a lawful set is the policy with its children's trees
abbrev pub IsUnfolded : Type 0
IsUnfolded = (sig : Signature) (set : PolicySet) → IsLawful sig set → (place : ℕ) (policy : Policy)
    → slice_get set.policies place ≡ Some policy → tree_of set place ≡ policy_tree (tree_of set) policy

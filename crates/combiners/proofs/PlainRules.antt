-- What counts of the rule at a place, and of the rules before one.
use Rattle.std.proofs.Common.{◌≡◌, ℕ, zero, suc, List, [], ◌∷◌, take, slice_get, refl, ap}
use Rattle.std.specs.Prelude.{option_map}
use Rattle.sorted_logic.proofs.TreeEquations.{tree_of_false}
use Rattle.combiners.specs.declared.policy.Rule.{Rule}
use Rattle.combiners.specs.Tree.{plain_rule, plain_rules}

pub plain_at : (rules : List Rule) (place : ℕ) → slice_get (plain_rules rules) place
    ≡ option_map plain_rule (slice_get rules place)
plain_at [] place = refl
plain_at (rule ∷ rules) zero = refl
plain_at (rule ∷ rules) (suc place) = plain_at rules place

pub plain_before : (rules : List Rule) (place : ℕ) → take place (plain_rules rules) ≡ plain_rules (take place rules)
plain_before rules zero = refl
plain_before [] (suc place) = refl
plain_before (rule ∷ rules) (suc place) = ap (λ others. plain_rule rule ∷ others) (plain_before rules place)

pub ruleset plain_places = (plain_at, tree_of_false)

-- The rule that a path names, and the policy before it.
use Rattle.std.proofs.Common.{◌≡◌, ◌∙◌, ℕ, ◌-◌, ◌≤◌, List, [], ◌∷◌, length, take, get_or, refl, ap, arith}
use Rattle.session.specs.Library.{Loaded}
use Rattle.session.specs.Policies.{front_of, last_of, path_rule_fault, policy_at, rule_fault}

front_is : (part : List ℕ) (parts : List (List ℕ)) → take (length parts) (part ∷ parts) ≡ front_of part parts
front_is part [] = refl
front_is part (other ∷ parts) = ap (λ front. part ∷ front) (front_is other parts)

last_is : (part : List ℕ) (parts : List (List ℕ)) (rule : List ℕ) → get_or (part ∷ parts) (length parts) rule ≡ last_of part parts
last_is part [] rule = refl
last_is part (other ∷ parts) rule = last_is other parts rule

-- a path of one component or more
pub path_rule : (library : List Loaded) (parts : List (List ℕ)) (rule : List ℕ) → 1 ≤ length parts → rule ≡ get_or parts (length parts - 1) rule → path_rule_fault library parts ≡ rule_fault (policy_at library (take (length parts - 1) parts)) rule
path_rule library [] rule some is = absurd (omega arith)
path_rule library (part ∷ parts) rule some is =
    let less : length (part ∷ parts) - 1 ≡ length parts = omega arith in
    let named : rule ≡ last_of part parts = rw less at is ∙ last_is part parts rule in
    rw (less, front_is part parts, named) refl

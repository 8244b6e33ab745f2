-- Lawful policies and sets over a signature, and lawful formulas over a signature, variables and a set.
use Rattle.std.specs.Prelude.{◌≡◌, ◌<◌, ℕ, zero, suc, ◌==◌, List, [], ◌∷◌, ◌++◌, Some, length, slice_get}
use Rattle.std.specs.List.{AllByRecursion, IsDistinct}
use Rattle.std.specs.Option.{option_map_or}
use Rattle.sorted_logic.specs.declared.term.Sort.{Sort}
use Rattle.sorted_logic.specs.Signature.{Signature, AreSorts, below}
use Rattle.sorted_logic.specs.Sorting.{AreArguments, IsWellSorted}
use Rattle.sorted_logic.specs.Syntax.{PolicyAtom, decides, matches, applies, FormulaTree, truth, falsity, negation, no_conjuncts, conjunct, no_disjuncts, disjunct, implication, no_equals, equals, for_all, there_is, same, in_sort, related, number_test, asks}
use Rattle.sorted_logic.specs.Trees.{formula_tree}
use Rattle.combiners.specs.declared.policy.Comb.{Comb}
use Rattle.combiners.specs.declared.policy.Comb.TheVariants as comb_of
use Rattle.combiners.specs.declared.policy.Parts.{Parts}
use Rattle.combiners.specs.declared.policy.Parts.TheVariants as parts_of
use Rattle.combiners.specs.declared.policy.Policy.{Policy}
use Rattle.combiners.specs.declared.policy.PolicySet.{PolicySet}
use Rattle.combiners.specs.declared.policy.Rule.{Rule}
use Rattle.combiners.specs.Tree.{sorts_of}

-- Policies.

-- a rule's decision is one of so many, and its body is well-sorted over the variables and then its own, so it asks no policy
pub record IsLawfulRule (sig : Signature) (vars : List Sort) (decisions : ℕ) (rule : Rule) : Type 0 where
  pub decision : rule.decision < decisions
  pub locals : AreSorts sig.sorts (sorts_of rule.locals)
  pub body : IsWellSorted sig (vars ++ sorts_of rule.locals) (formula_tree rule.body)

-- a child is a policy of the set, with the variable sorts and the decisions of its parent
pub record IsChild (set : PolicySet) (parent : Policy) (place : ℕ) : Type 0 where
  pub child : Policy
  pub there : slice_get set.policies place ≡ Some child
  pub vars : sorts_of child.vars ≡ sorts_of parent.vars
  pub decisions : child.decisions ≡ parent.decisions

abbrev pub AreLawfulParts : Signature → PolicySet → Policy → Parts → Type 0
AreLawfulParts sig set policy (parts_of.Rules rules) =
    AllByRecursion (IsLawfulRule sig (sorts_of policy.vars) (length policy.decisions)) rules
AreLawfulParts sig set policy (parts_of.Children places) = AllByRecursion (IsChild set policy) places

-- each decision that an order names is there, and named once
pub record IsOrder (decisions : ℕ) (order : List ℕ) : Type 0 where
  pub there : AllByRecursion (λ d. d < decisions) order
  pub once : IsDistinct (λ d e. d == e) order

abbrev pub IsLawfulComb : ℕ → Comb → Type 0
IsLawfulComb decisions comb_of.First = Unit {0}
IsLawfulComb decisions (comb_of.Over order) = IsOrder decisions order
IsLawfulComb decisions comb_of.All = Unit {0}

pub record IsLawfulPolicy (sig : Signature) (set : PolicySet) (policy : Policy) : Type 0 where
  pub vars : AreSorts sig.sorts (sorts_of policy.vars)
  pub parts : AreLawfulParts sig set policy policy.parts
  pub comb : IsLawfulComb (length policy.decisions) policy.comb

-- Sets.

abbrev pub children_in : Parts → List ℕ
children_in (parts_of.Rules rules) = []
children_in (parts_of.Children places) = places

abbrev pub children_at : PolicySet → ℕ → List ℕ
children_at set place = option_map_or (λ policy. children_in policy.parts) (slice_get set.policies place) []

-- each way down from a policy, child by child, meets at most so many policies
abbrev pub EndsWithin : PolicySet → ℕ → ℕ → Type 0
EndsWithin set zero place = ⊥
EndsWithin set (suc levels) place = AllByRecursion (EndsWithin set levels) (children_at set place)

-- each policy is lawful, and none lies below itself: no way down meets more policies than there are
pub record IsLawful (sig : Signature) (set : PolicySet) : Type 0 where
  pub policies : AllByRecursion (IsLawfulPolicy sig set) set.policies
  pub acyclic : (place : ℕ) → place < length set.policies → EndsWithin set (length set.policies) place

-- what lies at a place of a set: a decision of a policy, or a rule of it
pub record HasDecision (set : PolicySet) (place d : ℕ) : Type 0 where
  pub policy : Policy
  pub there : slice_get set.policies place ≡ Some policy
  pub decision : d < length policy.decisions

abbrev pub rules_in : Parts → List Rule
rules_in (parts_of.Rules rules) = rules
rules_in (parts_of.Children places) = []

pub record HasRule (set : PolicySet) (place rule : ℕ) : Type 0 where
  pub policy : Policy
  pub there : slice_get set.policies place ≡ Some policy
  pub rule_there : rule < length (rules_in policy.parts)

-- Formulas.

abbrev pub IsAtomOf : PolicySet → PolicyAtom → Type 0
IsAtomOf set (decides place d) = HasDecision set place d
IsAtomOf set (matches place rule) = HasRule set place rule
IsAtomOf set (applies place rule) = HasRule set place rule

abbrev pub policy_place : PolicyAtom → ℕ
policy_place (decides place d) = place
policy_place (matches place rule) = place
policy_place (applies place rule) = place

abbrev pub vars_at : PolicySet → ℕ → List Sort
vars_at set place = option_map_or (λ policy. sorts_of policy.vars) (slice_get set.policies place) []

-- a policy atom names a policy of the set and a decision or a rule of it, and has well-sorted arguments at or below the sorts of
-- its variables; all else is well-sorted
abbrev pub IsLawfulFormula : Signature → List Sort → PolicySet → FormulaTree → Type 0
IsLawfulFormula sig vars set (negation f) = IsLawfulFormula sig vars set f
IsLawfulFormula sig vars set (conjunct f parts) = IsLawfulFormula sig vars set f × IsLawfulFormula sig vars set parts
IsLawfulFormula sig vars set (disjunct f parts) = IsLawfulFormula sig vars set f × IsLawfulFormula sig vars set parts
IsLawfulFormula sig vars set (implication f g) = IsLawfulFormula sig vars set f × IsLawfulFormula sig vars set g
IsLawfulFormula sig vars set (equals f parts) = IsLawfulFormula sig vars set f × IsLawfulFormula sig vars set parts
IsLawfulFormula sig vars set (for_all s f) =
    (s < length sig.sorts) × IsLawfulFormula sig (vars ++ (record { 0 = s }) ∷ []) set f
IsLawfulFormula sig vars set (there_is s f) =
    (s < length sig.sorts) × IsLawfulFormula sig (vars ++ (record { 0 = s }) ∷ []) set f
IsLawfulFormula sig vars set (asks atom terms) =
    IsAtomOf set atom × AreArguments sig vars (below sig) (vars_at set (policy_place atom)) terms
IsLawfulFormula sig vars set truth = IsWellSorted sig vars truth
IsLawfulFormula sig vars set falsity = IsWellSorted sig vars falsity
IsLawfulFormula sig vars set no_conjuncts = IsWellSorted sig vars no_conjuncts
IsLawfulFormula sig vars set no_disjuncts = IsWellSorted sig vars no_disjuncts
IsLawfulFormula sig vars set no_equals = IsWellSorted sig vars no_equals
IsLawfulFormula sig vars set (same a b) = IsWellSorted sig vars (same a b)
IsLawfulFormula sig vars set (in_sort s t) = IsWellSorted sig vars (in_sort s t)
IsLawfulFormula sig vars set (related r terms) = IsWellSorted sig vars (related r terms)
IsLawfulFormula sig vars set (number_test t test) = IsWellSorted sig vars (number_test t test)

-- What policies decide: which rules match, and how combiners take the decisions of rules and of children together.
use Rattle.std.specs.Prelude.{◌≡◌, ◌≢◌, ◌<◌, ◌+◌, ℕ, zero, suc, Bool, true, false, ◌==◌, nat_lt, List, ◌++◌, ◌⊎◌, Option, Some, None, IsTrue, length, position, slice_get}
use Rattle.std.specs.Option.{unwrap_or}
use Rattle.sorted_logic.specs.Syntax.{decides, matches, applies}
use Rattle.sorted_logic.specs.Truth.{IsAtom, Policies, no_policies, HasTruthValue}
use Rattle.sorted_logic.specs.Universe.{Universe, AreElements}
use Rattle.combiners.specs.declared.policy.Comb.{Comb}
use Rattle.combiners.specs.declared.policy.Comb.TheVariants as comb_of
use Rattle.combiners.specs.declared.policy.PolicySet.{PolicySet}
use Rattle.combiners.specs.Tree.{PlainRule, PolicyTree, with_rules, with_children, PolicyChain, no_children, and_child, tree_of}

-- Below, `true` is that something matches, decides or applies, and `false` that it does not. Neither is the other's negation,
-- since in an infinite universe a body may be neither true nor false.

-- a rule matches where some elements of its local sorts make its body true, and does not where all make it false
abbrev pub Matches : Universe → PlainRule → Bool → List ℕ → Type 0
Matches u rule true env =
    (elements : List ℕ) × AreElements u rule.locals elements × HasTruthValue u no_policies rule.body true (env ++ elements)
Matches u rule false env =
    (elements : List ℕ) → AreElements u rule.locals elements → HasTruthValue u no_policies rule.body false (env ++ elements)

-- Overriding.

-- decisions that an order names stand in its places, and the others behind them, in the policy's order
abbrev pub rank : List ℕ → ℕ → ℕ
rank order d = unwrap_or (position (λ named. named == d) order) (length order + d)

abbrev pub is_before : List ℕ → ℕ → ℕ → Bool
is_before order e d = nat_lt (rank order e) (rank order d)

-- Rules.

-- some rule of the decision matches, or none does
abbrev pub SomeMatches : Universe → List PlainRule → ℕ → Bool → List ℕ → Type 0
SomeMatches u rules d true env =
    (k : ℕ) × (rule : PlainRule) × (slice_get rules k ≡ Some rule) × (rule.decision ≡ d) × Matches u rule true env
SomeMatches u rules d false env =
    (k : ℕ) (rule : PlainRule) → slice_get rules k ≡ Some rule → rule.decision ≡ d → Matches u rule false env

-- some rule before the place of another decision matches, or none does
abbrev pub OtherMatches : Universe → List PlainRule → ℕ → ℕ → Bool → List ℕ → Type 0
OtherMatches u rules place d true env = (j : ℕ) × (rule : PlainRule) × (j < place)
    × (slice_get rules j ≡ Some rule) × (rule.decision ≢ d) × Matches u rule true env
OtherMatches u rules place d false env = (j : ℕ) (rule : PlainRule) → j < place
    → slice_get rules j ≡ Some rule → rule.decision ≢ d → Matches u rule false env

-- some rule of a decision before this one matches, or none does
abbrev pub EarlierMatches : Universe → List ℕ → List PlainRule → ℕ → Bool → List ℕ → Type 0
EarlierMatches u order rules d true env =
    (e : ℕ) × IsTrue (is_before order e d) × SomeMatches u rules e true env
EarlierMatches u order rules d false env =
    (e : ℕ) → IsTrue (is_before order e d) → SomeMatches u rules e false env

-- first: a rule of the decision matches, and no rule before it of another decision does;
-- over: some rule of the decision matches, and no rule of a decision before it does;
-- all: some rule of the decision matches
abbrev pub RulesDecide : Universe → Comb → List PlainRule → ℕ → Bool → List ℕ → Type 0
RulesDecide u comb_of.First rules d true env = (k : ℕ) × (rule : PlainRule) × (slice_get rules k ≡ Some rule)
    × (rule.decision ≡ d) × Matches u rule true env × OtherMatches u rules k d false env
RulesDecide u comb_of.First rules d false env = (k : ℕ) (rule : PlainRule) → slice_get rules k ≡ Some rule
    → rule.decision ≡ d → Matches u rule false env ⊎ OtherMatches u rules k d true env
RulesDecide u (comb_of.Over order) rules d true env =
    SomeMatches u rules d true env × EarlierMatches u order rules d false env
RulesDecide u (comb_of.Over order) rules d false env =
    SomeMatches u rules d false env ⊎ EarlierMatches u order rules d true env
RulesDecide u comb_of.All rules d value env = SomeMatches u rules d value env

-- Children.

-- what the child at a place decides
abbrev pub ChildDecides : Type 1
ChildDecides = ℕ → ℕ → Bool → List ℕ → Type 0

-- some child decides the decision, or none does
abbrev pub SomeDecides : ChildDecides → ℕ → ℕ → Bool → List ℕ → Type 0
SomeDecides child children d true env = (k : ℕ) × (k < children) × child k d true env
SomeDecides child children d false env = (k : ℕ) → k < children → child k d false env

-- the child at a place makes some of so many decisions, or makes none
abbrev pub DecidesAny : ChildDecides → ℕ → ℕ → Bool → List ℕ → Type 0
DecidesAny child decisions k true env = (e : ℕ) × (e < decisions) × child k e true env
DecidesAny child decisions k false env = (e : ℕ) → e < decisions → child k e false env

-- some child makes one of the decisions before this one, or none does
abbrev pub EarlierDecides : ChildDecides → List ℕ → ℕ → ℕ → ℕ → Bool → List ℕ → Type 0
EarlierDecides child order decisions children d true env =
    (e : ℕ) × (e < decisions) × IsTrue (is_before order e d) × SomeDecides child children e true env
EarlierDecides child order decisions children d false env =
    (e : ℕ) → e < decisions → IsTrue (is_before order e d) → SomeDecides child children e false env

-- first: the first child that decides anything gives all its decisions; so a decision is not made where no child makes it, or
-- some child decides something and neither it nor a child before it makes this decision;
-- over and all: as for rules, with "some child decides" in place of "some rule matches"
abbrev pub ChildrenDecide : ChildDecides → Comb → ℕ → ℕ → ℕ → Bool → List ℕ → Type 0
ChildrenDecide child comb_of.First decisions children d true env = (k : ℕ) × (k < children) × child k d true env
    × ((j : ℕ) → j < k → DecidesAny child decisions j false env)
ChildrenDecide child comb_of.First decisions children d false env = SomeDecides child children d false env
    ⊎ ((k : ℕ) × (k < children) × DecidesAny child decisions k true env × SomeDecides child (suc k) d false env)
ChildrenDecide child (comb_of.Over order) decisions children d true env =
    SomeDecides child children d true env × EarlierDecides child order decisions children d false env
ChildrenDecide child (comb_of.Over order) decisions children d false env =
    SomeDecides child children d false env ⊎ EarlierDecides child order decisions children d true env
ChildrenDecide child comb_of.All decisions children d value env = SomeDecides child children d value env

-- Policies.

abbrev pub child_count : PolicyChain → ℕ
child_count no_children = 0
child_count (and_child tree chain) = suc (child_count chain)

-- a policy makes the decision, or does not
abbrev mutual
  pub Decides : Universe → PolicyTree → ℕ → Bool → List ℕ → Type 0
  Decides u (with_rules comb rules) d value env = RulesDecide u comb rules d value env
  Decides u (with_children comb decisions chain) d value env =
      ChildrenDecide (MemberDecides u chain) comb decisions (child_count chain) d value env

  -- the member of a chain at a place does
  pub MemberDecides : Universe → PolicyChain → ℕ → ℕ → Bool → List ℕ → Type 0
  MemberDecides u no_children k d value env = IsAtom false value
  MemberDecides u (and_child tree chain) zero d value env = Decides u tree d value env
  MemberDecides u (and_child tree chain) (suc k) d value env = MemberDecides u chain k d value env

-- what keeps a rule that matches from applying: under first an earlier rule that matches, under over one of a decision before
-- its own, and under all nothing
abbrev pub Preempts : Universe → Comb → List PlainRule → ℕ → PlainRule → Bool → List ℕ → Type 0
Preempts u comb_of.First rules place rule true env =
    (j : ℕ) × (before : PlainRule) × (j < place) × (slice_get rules j ≡ Some before) × Matches u before true env
Preempts u comb_of.First rules place rule false env =
    (j : ℕ) (before : PlainRule) → j < place → slice_get rules j ≡ Some before → Matches u before false env
Preempts u (comb_of.Over order) rules place rule value env = EarlierMatches u order rules rule.decision value env
Preempts u comb_of.All rules place rule value env = IsAtom false value

-- a rule applies where it matches and nothing keeps it from that
abbrev pub Applies : Universe → Comb → List PlainRule → ℕ → PlainRule → Bool → List ℕ → Type 0
Applies u comb rules place rule true env = Matches u rule true env × Preempts u comb rules place rule false env
Applies u comb rules place rule false env = Matches u rule false env ⊎ Preempts u comb rules place rule true env

-- where there is no such rule, it does not match, and does not apply
abbrev pub RuleMatches : Universe → Option PlainRule → Bool → List ℕ → Type 0
RuleMatches u (Some rule) value env = Matches u rule value env
RuleMatches u None value env = IsAtom false value

abbrev pub RuleApplies : Universe → Comb → List PlainRule → ℕ → Option PlainRule → Bool → List ℕ → Type 0
RuleApplies u comb rules place (Some rule) value env = Applies u comb rules place rule value env
RuleApplies u comb rules place None value env = IsAtom false value

abbrev pub MatchesAt : Universe → PolicyTree → ℕ → Bool → List ℕ → Type 0
MatchesAt u (with_rules comb rules) place value env = RuleMatches u (slice_get rules place) value env
MatchesAt u (with_children comb decisions chain) place value env = IsAtom false value

abbrev pub AppliesAt : Universe → PolicyTree → ℕ → Bool → List ℕ → Type 0
AppliesAt u (with_rules comb rules) place value env = RuleApplies u comb rules place (slice_get rules place) value env
AppliesAt u (with_children comb decisions chain) place value env = IsAtom false value

-- what a set of policies says of its atoms
abbrev pub policies_of : Universe → PolicySet → Policies
policies_of u set (decides policy d) value elements = Decides u (tree_of set policy) d value elements
policies_of u set (matches policy rule) value elements = MatchesAt u (tree_of set policy) rule value elements
policies_of u set (applies policy rule) value elements = AppliesAt u (tree_of set policy) rule value elements

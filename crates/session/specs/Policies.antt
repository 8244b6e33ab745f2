-- The policies of the routers that are loaded, by their paths: which decisions they have, and which rules.
use Rattle.std.specs.Prelude.{ℕ, ◌||◌, Bool, List, [], ◌∷◌, ◌++◌, map, Option, Some, None, codes}
use Rattle.std.specs.Bool.{if◌then◌else◌}
use Rattle.std.specs.Fmt.{decimal}
use Rattle.std.specs.List.{list_any}
use Rattle.std.specs.Option.{option_map, option_or}
use Rattle.std.specs.Str.{bytes_eq}
use Rattle.ios_acl.specs.declared.entry.Entry.{Entry}
use Rattle.ios_acl.specs.List.{AccessList}
use Rattle.query_lang.specs.declared.formula.Named.{Named}
use Rattle.query_lang.specs.declared.script.Explore.{Explore}
use Rattle.list_questions.specs.Mentions.{PolicyAtom, mentions}
use Rattle.session.specs.declared.ended.Reason.{Reason}
use Rattle.session.specs.declared.policy.Policy.{Policy}
use Rattle.session.specs.declared.policy.Policy.TheVariants as policy
use Rattle.session.specs.declared.ended.Reason.TheVariants as reason
use Rattle.session.specs.Library.{Loaded, is_router, list_at_path}

-- the names that a query may use of a policy
pub record PolicyNames : Type 0 where
  pub decisions : List (List ℕ)
  pub rules : List (List ℕ)

-- the decisions of a list and of a filter
abbrev pub verdicts : List (List ℕ)
verdicts = codes "permit" ∷ codes "deny" ∷ []

-- entries are rules, each named by its number
abbrev pub entry_names : List Entry → List (List ℕ)
entry_names entries = map (λ (entry : Entry). decimal entry.number) entries

-- a list permits and denies; its rules are its entries, and last what holds where none matches
abbrev pub list_names : AccessList → PolicyNames
list_names list = record {
  decisions = verdicts;
  rules = entry_names list.entries ++ codes "default" ∷ [];
}

-- a policy with these decisions, and without rules that a query can name
abbrev pub deciding : List (List ℕ) → PolicyNames
deciding decisions = record { decisions = decisions; rules = [] }

-- the other policies of a router
abbrev pub router_policy : List ℕ → Option PolicyNames
router_policy name =
    if bytes_eq name (codes "InboundACL") || bytes_eq name (codes "OutboundACL") then Some (deciding verdicts)
    else if bytes_eq name (codes "NAT") then Some (deciding (codes "translated" ∷ []))
    else if bytes_eq name (codes "Switching") then Some (deciding (codes "forward" ∷ []))
    else if bytes_eq name (codes "Passes") then Some (deciding (codes "pass" ∷ []))
    else None

-- the policy under the path of a router that is loaded and of the name of another policy than a list
abbrev pub other_policy : List Loaded → List (List ℕ) → Option PolicyNames
other_policy library (router ∷ name ∷ []) = if is_router library router then router_policy name else None
other_policy library other = None

-- the policy under a path: that of a list, or another
abbrev pub policy_at : List Loaded → List (List ℕ) → Option PolicyNames
policy_at library parts = option_or (option_map list_names (list_at_path library parts)) (other_policy library parts)

abbrev pub is_among : List (List ℕ) → List ℕ → Bool
is_among names name = list_any (bytes_eq name) names

-- why a name that a policy should have is refused
abbrev pub name_fault : List (List ℕ) → List ℕ → Option Reason
name_fault names name = if is_among names name then None else Some reason.UnknownName

abbrev pub decision_fault : Option PolicyNames → List ℕ → Option Reason
decision_fault None word = Some reason.UnknownPolicy
decision_fault (Some policy) word = name_fault policy.decisions word

abbrev pub rule_fault : Option PolicyNames → List ℕ → Option Reason
rule_fault None rule = Some reason.UnknownPolicy
rule_fault (Some policy) rule = name_fault policy.rules rule

-- all but the last, and the last, behind this one
abbrev pub front_of : List ℕ → List (List ℕ) → List (List ℕ)
front_of part [] = []
front_of part (other ∷ parts) = part ∷ front_of other parts

abbrev pub last_of : List ℕ → List (List ℕ) → List ℕ
last_of part [] = part
last_of part (other ∷ parts) = last_of other parts

-- behind these words a path names a rule: its last component is the rule, and the rest the policy
abbrev pub names_rule : List ℕ → Bool
names_rule word = bytes_eq word (codes "matches") || bytes_eq word (codes "applies")

abbrev pub path_rule_fault : List Loaded → List (List ℕ) → Option Reason
path_rule_fault library [] = Some reason.UnknownPolicy
path_rule_fault library (part ∷ parts) = rule_fault (policy_at library (front_of part parts)) (last_of part parts)

-- why a policy atom is refused
abbrev pub atom_fault : List Loaded → PolicyAtom → Option Reason
atom_fault library atom =
    if names_rule atom.word then path_rule_fault library atom.path.parts
    else decision_fault (policy_at library atom.path.parts) atom.word

abbrev pub first_fault : List Loaded → List PolicyAtom → Option Reason
first_fault library [] = None
first_fault library (atom ∷ atoms) = option_or (atom_fault library atom) (first_fault library atoms)

-- no vocabulary is loaded but the built-in one
abbrev pub under_fault : List (List ℕ) → Option Reason
under_fault [] = None
under_fault (name ∷ names) = if bytes_eq name (codes "net") then under_fault names else Some reason.UnknownPolicy

abbrev pub included_fault : List Loaded → List Named → Option Reason
included_fault library [] = None
included_fault library (atom ∷ atoms) = option_or (first_fault library (mentions atom)) (included_fault library atoms)

-- why the names of policies in an EXPLORE are refused: the first in its formula, else behind UNDER, else behind INCLUDE
abbrev pub explore_fault : List Loaded → Explore → Option Reason
explore_fault library explore =
    option_or (first_fault library (mentions explore.formula)) (option_or (under_fault explore.under) (included_fault library explore.include))

-- the names of a policy that was found
abbrev pub names_of : Policy → PolicyNames
names_of (policy.List acl) = list_names acl.now
names_of policy.Filter = deciding verdicts
names_of policy.Translation = deciding (codes "translated" ∷ [])
names_of policy.Switching = deciding (codes "forward" ∷ [])
names_of policy.Forwarding = deciding (codes "pass" ∷ [])

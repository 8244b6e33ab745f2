-- Lines of numbered lists.
use Rattle.std.proofs.Common.{◌≡◌, ℕ, Bool, List, ◌∷◌, None}
use Rattle.ios_lex.specs.Phrases.{Words}
use Rattle.ios_acl.specs.declared.fault.AclFault.{AclFault}
use Rattle.ios_acl.specs.declared.fault.AclFault.TheVariants as acl
use Rattle.ios_acl.specs.Block.{empty_list}
use Rattle.ios_acl.specs.List.{AccessList}
use Rattle.ios_acl.specs.Faults.{IsFault}
use Rattle.ios_acl.specs.Reading.{Reads}
use Rattle.ios_lists.specs.Faults.{IsAclFault}
use Rattle.ios_lists.specs.Lists.{list_named, with_list, kind_named}
use Rattle.ios_lists.specs.Numbered.{IsNumbered, IsNumberedRefused}
use Rattle.ios_lists.specs.Rules.{BeginsRule, IsNoRule, ReadsInto}
use Rattle.ios_lists.proofs.AclFaults.{fault_weaker}
use Rattle.ios_lists.proofs.Growing.{fresh}

pub no_rule_fails : (lists : List AccessList) (name : List ℕ) (extended : Bool) (rule words : Words) (fault : AclFault) → words ≡ name ∷ rule → IsNumbered lists name extended
    → IsAclFault (IsNoRule rule) fault → IsAclFault (IsNumberedRefused lists words) fault
no_rule_fails lists name extended rule words fault whole numbered refused =
    rw whole (fault_weaker (IsNoRule rule) (IsNumberedRefused lists (name ∷ rule)) fault (λ why. IsNumberedRefused.no_rule name extended rule why numbered) refused)

pub rule_fails : (lists : List AccessList) (name : List ℕ) (extended : Bool) (rule words : Words) (fault : AclFault) → words ≡ name ∷ rule → IsNumbered lists name extended → BeginsRule rule
    → IsFault (list_named lists name extended) rule fault → IsAclFault (IsNumberedRefused lists words) fault
rule_fails lists name extended rule words (acl.Refused why) whole numbered begins refused = rw whole (IsNumberedRefused.rule name extended rule why numbered begins refused)
rule_fails lists name extended rule words acl.NoMemory whole numbered begins refused = tt

-- a rule that is read into an empty list is read into the new list of its name
pub first_read : (lists new : List AccessList) (name : List ℕ) (extended : Bool) (words : Words) (list made : AccessList) → kind_named lists name ≡ None → list ≡ empty_list name extended
    → Reads list words made → new ≡ with_list lists made → ReadsInto lists name extended words new
first_read lists new name extended words list made none is reads put =
    record { made = made; reads = rw (fresh lists name extended none, ← is) reads; put = put }

pub first_fails : (lists : List AccessList) (name : List ℕ) (extended : Bool) (words : Words) (list : AccessList) (fault : AclFault) → kind_named lists name ≡ None → list ≡ empty_list name extended
    → IsFault list words fault → IsFault (list_named lists name extended) words fault
first_fails lists name extended words list fault none is fails = rw (fresh lists name extended none, ← is) fails

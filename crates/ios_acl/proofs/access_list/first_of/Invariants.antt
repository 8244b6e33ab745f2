use Rattle.std.proofs.Common.{◌≡◌, drop}
use Rattle.ios_acl.specs.Decision.{first_match}
use Rattle.ios_acl.proofs.access_list.first_of.Given as goal

-- none of the entries so far matches
abbrev pub invariant-loop-entry : goal.invariant-loop-entry
invariant-loop-entry l = first_match (drop l.entry-index l.entries) l.packet ≡ first_match l.entries l.packet

use Rattle.std.proofs.Common.{◌≡◌, true, ◌++◌, drop}
use Rattle.ios_acl.specs.declared.packet.Packet.{Packet}
use Rattle.ios_acl.specs.Decision.{decision}
use Rattle.frame.specs.Meaning.{passes_all}
use Rattle.frame.proofs.relevance.relevant.Given as goal

-- the entries that were kept and those to come decide what all do
abbrev pub invariant-loop-entry : goal.invariant-loop-entry
invariant-loop-entry l = (packet : Packet) → passes_all l.tests packet ≡ true → decision (l.kept.items ++ drop l.entry-index l.entries) packet ≡ decision l.entries packet

-- What a list decides: the first entry that matches does, and where none matches the packet is denied.
use Rattle.std.specs.Prelude.{ℕ, List, find, Option, Some, None}
use Rattle.ios_acl.specs.declared.entry.Entry.{Entry}
use Rattle.ios_acl.specs.declared.entry.Verdict.{Verdict}
use Rattle.ios_acl.specs.declared.entry.Verdict.TheVariants as verdict
use Rattle.ios_acl.specs.declared.packet.Packet.{Packet}
use Rattle.ios_acl.specs.Matching.{matches}

-- the first of the entries, in their order, that matches
abbrev pub first_match : List Entry → Packet → Option Entry
first_match entries packet = find (λ entry. matches entry packet) entries

-- an entry gives its verdict and its number; by default the packet is denied, and no number says so
abbrev pub verdict_by : Option Entry → Verdict × Option ℕ
verdict_by None = (verdict.Deny, None)
verdict_by (Some entry) = (entry.verdict, Some entry.number)

abbrev pub decision : List Entry → Packet → Verdict × Option ℕ
decision entries packet = verdict_by (first_match entries packet)

use Rattle.std.proofs.Common.{◌≡◌, drop}
use Rattle.list_questions.specs.Ranges.{literal_fault}
use Rattle.list_questions.proofs.packet.first_fault.Given as goal

-- the literals so far are numbers of their fields
abbrev pub invariant-loop-i : goal.invariant-loop-i
invariant-loop-i l = literal_fault l.names (drop l.i l.fields) (drop l.i l.literals) ≡ literal_fault l.names l.fields l.literals

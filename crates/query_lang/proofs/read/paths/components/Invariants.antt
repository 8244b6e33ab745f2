use Rattle.std.proofs.Common.{◌≤◌, ◌-◌, length, drop}
use Rattle.query_lang.proofs.Paths.{Leads}
use Rattle.query_lang.proofs.read.paths.components.Given as goal

abbrev pub invariant-loop-next : goal.invariant-loop-next
invariant-loop-next l = record { leads : Leads l.fn.parts (drop l.at l.tokens) l.parts (drop l.place l.tokens); past : l.at ≤ l.place; within : l.place ≤ length l.tokens }

abbrev pub decreases-loop-next : goal.decreases-loop-next
decreases-loop-next l = length l.tokens - l.place

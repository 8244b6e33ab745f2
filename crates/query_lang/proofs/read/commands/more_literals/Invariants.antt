use Rattle.std.proofs.Common.{◌≤◌, ◌-◌, List, ◌∷◌, [], length, drop}
use Rattle.query_lang.specs.declared.literal.Literal.{Literal}
use Rattle.query_lang.specs.Machine.Due.{Due, State}
use Rattle.query_lang.proofs.Leading.{Leads}
use Rattle.query_lang.proofs.read.commands.more_literals.Given as goal

abbrev pub invariant-loop-behind : goal.invariant-loop-behind
invariant-loop-behind l = record { leads : Leads (List Literal) (State.want (Due.more_literals (l.fn.first ∷ []))) (State.want (Due.more_literals l.parts)) (drop l.at l.tokens) (drop l.place l.tokens); past : l.at ≤ l.place; within : l.place ≤ length l.tokens }

abbrev pub decreases-loop-behind : goal.decreases-loop-behind
decreases-loop-behind l = length l.tokens - l.place

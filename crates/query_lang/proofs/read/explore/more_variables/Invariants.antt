use Rattle.std.proofs.Common.{ℕ, ◌≤◌, ◌-◌, List, ◌∷◌, [], length, drop}
use Rattle.query_lang.specs.Machine.Due.{Due, State}
use Rattle.query_lang.proofs.Leading.{Leads}
use Rattle.query_lang.proofs.read.explore.more_variables.Given as goal

abbrev pub invariant-loop-behind : goal.invariant-loop-behind
invariant-loop-behind l = record { leads : Leads (List (List ℕ × List ℕ)) (State.want (Due.more_vars (l.fn.first ∷ []))) (State.want (Due.more_vars l.parts)) (drop l.at l.tokens) (drop l.place l.tokens); past : l.at ≤ l.place; within : l.place ≤ length l.tokens }

abbrev pub decreases-loop-behind : goal.decreases-loop-behind
decreases-loop-behind l = length l.tokens - l.place

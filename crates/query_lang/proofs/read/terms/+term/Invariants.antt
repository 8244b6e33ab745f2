use Rattle.std.proofs.Common.{◌≤◌, ◌-◌, ◌+◌, ◌*◌, List, ◌∷◌, [], length, drop}
use Rattle.query_lang.specs.declared.term.Arg.{Arg}
use Rattle.query_lang.specs.Machine.Due.{Due, State}
use Rattle.query_lang.proofs.Leading.{Leads}
use Rattle.query_lang.proofs.read.terms.+term.Given as goal

abbrev pub decreases-called : goal.decreases-called
decreases-called l = 8 * (length l.tokens.now - l.at) + 1

abbrev pub decreases-term : goal.decreases-term
decreases-term l = 8 * (length l.tokens.now - l.at) + 2

abbrev pub decreases-arguments : goal.decreases-arguments
decreases-arguments l = 8 * (length l.tokens.now - l.at)

abbrev pub decreases-argument : goal.decreases-argument
decreases-argument l = 8 * (length l.tokens.now - l.at) + 3

abbrev pub decreases-more_arguments : goal.decreases-more_arguments
decreases-more_arguments l = 8 * (length l.tokens.now - l.at) + 4

abbrev pub invariant-more_arguments-loop-behind : goal.invariant-more_arguments-loop-behind
invariant-more_arguments-loop-behind l = record { leads : Leads (List Arg) (State.want (Due.more_args l.level (l.fn.first ∷ []))) (State.want (Due.more_args l.level l.parts)) (drop l.at l.tokens) (drop l.place l.tokens); past : l.at ≤ l.place; within : l.place ≤ length l.tokens }

abbrev pub decreases-more_arguments-loop-behind : goal.decreases-more_arguments-loop-behind
decreases-more_arguments-loop-behind l = length l.tokens - l.place

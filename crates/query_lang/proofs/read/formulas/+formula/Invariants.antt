use Rattle.std.proofs.Common.{◌≤◌, ◌-◌, ◌+◌, ◌*◌, ◌∷◌, [], length, drop}
use Rattle.query_lang.specs.declared.formula.Named.{Named}
use Rattle.query_lang.specs.Machine.Due.{Due, State}
use Rattle.query_lang.proofs.Leading.{Leads}
use Rattle.query_lang.proofs.read.formulas.+formula.Given as goal

abbrev pub decreases-negation : goal.decreases-negation
decreases-negation l = 8 * (length l.tokens.now - l.at) + 0

abbrev pub decreases-quantified : goal.decreases-quantified
decreases-quantified l = 8 * (length l.tokens.now - l.at) + 0

abbrev pub decreases-group : goal.decreases-group
decreases-group l = 8 * (length l.tokens.now - l.at) + 0

abbrev pub decreases-unary_word : goal.decreases-unary_word
decreases-unary_word l = 8 * (length l.tokens.now - l.at) + 1

abbrev pub decreases-unary : goal.decreases-unary
decreases-unary l = 8 * (length l.tokens.now - l.at) + 2

abbrev pub decreases-conjunction : goal.decreases-conjunction
decreases-conjunction l = 8 * (length l.tokens.now - l.at) + 3

abbrev pub decreases-more_and : goal.decreases-more_and
decreases-more_and l = 8 * (length l.tokens.now - l.at) + 3

abbrev pub decreases-disjunction : goal.decreases-disjunction
decreases-disjunction l = 8 * (length l.tokens.now - l.at) + 4

abbrev pub decreases-more_or : goal.decreases-more_or
decreases-more_or l = 8 * (length l.tokens.now - l.at) + 4

abbrev pub decreases-implied : goal.decreases-implied
decreases-implied l = 8 * (length l.tokens.now - l.at) + 4

abbrev pub decreases-implication : goal.decreases-implication
decreases-implication l = 8 * (length l.tokens.now - l.at) + 5

abbrev pub decreases-more_iff : goal.decreases-more_iff
decreases-more_iff l = 8 * (length l.tokens.now - l.at) + 6

abbrev pub decreases-equivalence : goal.decreases-equivalence
decreases-equivalence l = 8 * (length l.tokens.now - l.at) + 7

abbrev pub invariant-more_and-loop-behind : goal.invariant-more_and-loop-behind
invariant-more_and-loop-behind l = record { leads : Leads Named (State.want (Due.more_and l.level (l.fn.first ∷ []))) (State.want (Due.more_and l.level l.parts)) (drop l.at l.tokens) (drop l.place l.tokens); past : l.at ≤ l.place; within : l.place ≤ length l.tokens }

abbrev pub decreases-more_and-loop-behind : goal.decreases-more_and-loop-behind
decreases-more_and-loop-behind l = length l.tokens - l.place

abbrev pub invariant-more_or-loop-behind : goal.invariant-more_or-loop-behind
invariant-more_or-loop-behind l = record { leads : Leads Named (State.want (Due.more_or l.level (l.fn.first ∷ []))) (State.want (Due.more_or l.level l.parts)) (drop l.at l.tokens) (drop l.place l.tokens); past : l.at ≤ l.place; within : l.place ≤ length l.tokens }

abbrev pub decreases-more_or-loop-behind : goal.decreases-more_or-loop-behind
decreases-more_or-loop-behind l = length l.tokens - l.place

abbrev pub invariant-more_iff-loop-behind : goal.invariant-more_iff-loop-behind
invariant-more_iff-loop-behind l = record { leads : Leads Named (State.want (Due.more_iff l.level (l.fn.first ∷ []))) (State.want (Due.more_iff l.level l.parts)) (drop l.at l.tokens) (drop l.place l.tokens); past : l.at ≤ l.place; within : l.place ≤ length l.tokens }

abbrev pub decreases-more_iff-loop-behind : goal.decreases-more_iff-loop-behind
decreases-more_iff-loop-behind l = length l.tokens - l.place

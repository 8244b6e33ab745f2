use Rattle.std.proofs.Common.{◌≡◌}
use Rattle.combiners.specs.Making.{decisions_below}
use Rattle.combiners.proofs.order.decisions_below.Given as goal

-- the decisions so far
abbrev pub invariant-loop-decision : goal.invariant-loop-decision
invariant-loop-decision l = l.below.items ≡ decisions_below l.decision

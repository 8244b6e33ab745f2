use Rattle.std.proofs.Common.{◌≡◌}
use Rattle.combiners.specs.Making.{decisions_before}
use Rattle.combiners.proofs.order.decisions_before.Given as goal

-- those of the decisions so far
abbrev pub invariant-loop-decision : goal.invariant-loop-decision
invariant-loop-decision l = l.before.items ≡ decisions_before l.order l.decision l.overridden

use Rattle.decision_diagram.proofs.EdgeLists.{none_added}
use Rattle.decision_diagram.proofs.edges.EdgesInto.new.Goals as goal

pub loop-preserved : goal.loop-preserved
loop-preserved c = rw (c.in_ok-push.ensures.items) (none_added (λ edges. edges.items) c.loop.branches.items c.new.result c.loop.counter c.loop.invariant c.new.ensures.items)

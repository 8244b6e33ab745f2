use Rattle.decision_diagram.proofs.EdgeLists.{edge_added}
use Rattle.decision_diagram.proofs.edges.EdgesInto.add.Goals as goal

pub returns-in_ok-push : goal.returns-in_ok-push
returns-in_ok-push c =
    edge_added (λ edges. edges.items) c.self.inside.branches.items c.args.self.now c.index_mut.result.now c.push.new.self c.place-place.result c.args.end c.args.edge
    c.place-place.ensures c.self.view_is c.if-place-ge2.true c.requires c.index_mut.ensures.value c.in_ok-push.ensures.items

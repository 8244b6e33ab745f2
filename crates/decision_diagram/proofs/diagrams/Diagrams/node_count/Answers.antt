use Rattle.std.proofs.Common.{◌≡◌, ◌≤◌, subst, length, ap, sym, ◌∙◌}
use Rattle.decision_diagram.specs.Table.{Table, IsTable, diagram}
use Rattle.decision_diagram.specs.Listing.{size}
use Rattle.decision_diagram.proofs.Sizes.{size_within}
use Rattle.decision_diagram.proofs.diagrams.Diagrams.node_count.Goals as goal

pub returns-clause-sizes : goal.returns-clause-sizes
returns-clause-sizes c =
    let is : IsTable c.args.self.now = subst IsTable c.self.view_is c.self.invariant.0 in
    let count : c.len.result ≡ length c.args.self.now.nodes = c.len.ensures.len ∙ ap (λ (table : Table). length table.nodes) c.self.view_is in
    λ d within. subst (λ n. size (diagram c.args.self.now d) ≤ n) (sym count) (size_within c.args.self.now d is within)

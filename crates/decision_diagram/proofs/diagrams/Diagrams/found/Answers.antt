use Rattle.std.proofs.Common.{◌≡◌, ℕ, Some, sym, ap, subst, ◌∙◌}
use Rattle.std.specs.List.{slice_get}
use Rattle.decision_diagram.specs.Table.{Table}
use Rattle.decision_diagram.proofs.SameNode.{absent, found_there}
use Rattle.decision_diagram.proofs.diagrams.Diagrams.found.Goals as goal

pub returns-in_err-place : goal.returns-in_err-place
returns-in_err-place c =
    let none = absent c.self.inside.nodes.keys c.args.node.now (sym c.in_err-place.ensures.found) in
    rw c.from_residual.ensures (subst (λ (table : Table). (d : ℕ) → slice_get table.nodes d ≡ Some c.args.node.now → ⊥) c.self.view_is none)

pub returns : goal.returns
returns c =
    let there = found_there c.self.inside.nodes.keys c.args.node.now c.in_ok-place.place (sym c.in_ok-place.ensures.index) in
    ap (slice_get c.args.self.now.nodes) c.at.ensures ∙ subst (λ (table : Table). slice_get table.nodes c.in_ok-place.place ≡ Some c.args.node.now) c.self.view_is there

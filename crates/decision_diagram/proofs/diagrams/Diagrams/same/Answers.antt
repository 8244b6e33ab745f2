use Rattle.std.proofs.Common.{◌≡◌, ap, subst, arith}
use Rattle.decision_diagram.specs.Tree.{value}
use Rattle.decision_diagram.specs.Table.{IsTable, diagram}
use Rattle.decision_diagram.proofs.Canonical.{canonical}
use Rattle.decision_diagram.proofs.diagrams.Diagrams.same.Goals as goal

pub returns : goal.returns
returns c =
    let table = c.args.self.now in
    let is : IsTable c.args.self.now = subst IsTable c.self.view_is c.self.invariant.0 in (
      λ test bits long. (let same : c.args.a ≡ c.args.b = grind (arith, c.eq.ensures, test) in ap (λ d. value (diagram table d) bits) same),
      λ value_same. (
          let trees = canonical table.bits (diagram table c.args.a) (diagram table c.args.b) (is.reduced c.args.a c.requires.a) (is.reduced c.args.b c.requires.b) value_same in
          let same : c.args.a ≡ c.args.b = is.different c.args.a c.args.b c.requires.a c.requires.b trees in
          grind (arith, c.eq.ensures, same)),
    )

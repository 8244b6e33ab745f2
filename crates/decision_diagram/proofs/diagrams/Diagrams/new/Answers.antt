use Rattle.std.proofs.Common.{◌≡◌, arith, rules}
use Rattle.decision_diagram.specs.Table.{two_leaves}
use Rattle.decision_diagram.proofs.Growing.{first_table}
use Rattle.decision_diagram.proofs.diagrams.Diagrams.new.Goals as goal

pub invariant_of-result : goal.invariant_of-result
invariant_of-result c =
    let both : c.insert-2.new.self.keys ≡ two_leaves = search rules in
    rw both (first_table c.args.bits, omega arith)

use Rattle.decision_diagram.proofs.Canonical.{canonical}
use Rattle.decision_diagram.proofs.laws.equal_diagrams_are_one.Goals as goal

pub returns : goal.returns
returns c = canonical

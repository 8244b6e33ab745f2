use Rattle.sorted_logic.proofs.Truths.{looks}
use Rattle.sorted_logic.proofs.laws.looks_at_occurring.Goals as goal

pub returns : goal.returns
returns g c = looks g.U.Universe.answers g.P.PolicyAnswers.decided

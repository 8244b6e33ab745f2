use Rattle.sorted_logic.proofs.Truths.{grouped_left}
use Rattle.sorted_logic.proofs.laws.iff_chains.Goals as goal

pub returns-clause-longer : goal.returns-clause-longer
returns-clause-longer g c = grouped_left g.U.Universe.answers g.P.PolicyAnswers.decided

use Rattle.sorted_logic.proofs.Deciding.{all_decided}
use Rattle.sorted_logic.proofs.finite_laws.finite_decides.Goals as goal

pub returns : goal.returns
returns g c = all_decided g.P.PolicyAnswers.decided

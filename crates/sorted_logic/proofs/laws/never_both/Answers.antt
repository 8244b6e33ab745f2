use Rattle.sorted_logic.proofs.Truths.{not_both}
use Rattle.sorted_logic.proofs.laws.never_both.Goals as goal

pub returns : goal.returns
returns g c = not_both g.U.Universe.answers g.P.PolicyAnswers.decided

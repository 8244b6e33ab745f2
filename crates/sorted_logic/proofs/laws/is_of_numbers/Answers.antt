use Rattle.sorted_logic.proofs.NumberTruths.{of_numbers}
use Rattle.sorted_logic.proofs.laws.is_of_numbers.Goals as goal

pub returns : goal.returns
returns g c = of_numbers g.U.Universe.answers g.P.PolicyAnswers.decided

use Rattle.sorted_logic.proofs.LastValues.{last_answered}
use Rattle.sorted_logic.proofs.finite_laws.last_is_answered.Goals as goal

pub returns : goal.returns
returns c = last_answered

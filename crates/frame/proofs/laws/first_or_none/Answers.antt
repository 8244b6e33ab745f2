use Rattle.frame.proofs.FirstOrNone.{first_or_none}
use Rattle.frame.proofs.laws.first_or_none.Goals as goal

pub returns : goal.returns
returns c = first_or_none

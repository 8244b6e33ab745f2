use Rattle.frame.proofs.OneFirst.{one_first}
use Rattle.frame.proofs.laws.one_first.Goals as goal

pub returns : goal.returns
returns c = one_first

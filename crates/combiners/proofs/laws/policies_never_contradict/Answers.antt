use Rattle.combiners.proofs.PolicyFormulas.{consistent}
use Rattle.combiners.proofs.laws.policies_never_contradict.Goals as goal

pub returns : goal.returns
returns g c = consistent g.U.Universe.answers

use Rattle.combiners.proofs.UnfoldedSets.{unfolded}
use Rattle.combiners.proofs.laws.policy_is_unfolded.Goals as goal

pub returns : goal.returns
returns c = unfolded

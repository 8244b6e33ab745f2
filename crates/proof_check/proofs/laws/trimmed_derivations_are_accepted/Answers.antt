use Rattle.proof_check.proofs.Trimmed.{trimmed_are_accepted}
use Rattle.proof_check.proofs.laws.trimmed_derivations_are_accepted.Goals as goal

pub returns : goal.returns
returns c = trimmed_are_accepted

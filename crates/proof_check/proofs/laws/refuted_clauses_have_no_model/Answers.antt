use Rattle.proof_check.proofs.Sound.{refuted_have_no_model}
use Rattle.proof_check.proofs.laws.refuted_clauses_have_no_model.Goals as goal

pub returns : goal.returns
returns c = refuted_have_no_model

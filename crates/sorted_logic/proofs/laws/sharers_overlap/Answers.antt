use Rattle.sorted_logic.proofs.Overlapping.{sharing}
use Rattle.sorted_logic.proofs.laws.sharers_overlap.Goals as goal

pub returns : goal.returns
returns g c = sharing g.U.Universe.answers

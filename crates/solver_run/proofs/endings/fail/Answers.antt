use Rattle.solver_run.proofs.Writing.{unmade_is_said}
use Rattle.solver_run.proofs.endings.fail.Goals as goal

pub returns-in_default : goal.returns-in_default
returns-in_default g c = unmade_is_said _ _ _

use Rattle.session.proofs.Writing.{unmade_is_said}
use Rattle.session.proofs.endings.fail.Goals as goal

pub returns-in_default : goal.returns-in_default
returns-in_default g c = unmade_is_said _ _ _

pub returns-in_default-of : goal.returns-in_default-of
returns-in_default-of g c = unmade_is_said _ _ _

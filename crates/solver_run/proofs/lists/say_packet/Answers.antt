use Rattle.solver_run.proofs.Writing.{unmade_is_said}
use Rattle.solver_run.proofs.lists.say_packet.Goals as goal

pub returns-then-values-ge-TOO_MANY_VALUES : goal.returns-then-values-ge-TOO_MANY_VALUES
returns-then-values-ge-TOO_MANY_VALUES g c = unmade_is_said _ _ _

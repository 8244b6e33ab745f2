use Rattle.std.proofs.Common.{[], refl, None}
use Rattle.mg_outside.proofs.EffectLaws.{has_read_nothing, has_written_nothing}
use Rattle.solver_run.specs.Run.{counted}
use Rattle.solver_run.specs.Stores.{stored_nothing}
use Rattle.solver_run.specs.Tasks as task
use Rattle.solver_run.proofs.Runs.{says_so, wants_here}
use Rattle.solver_run.proofs.Writing.{has_stored_nothing}
use Rattle.solver_run.proofs.gates.gates.Goals as goal

pub returns-in_default : goal.returns-in_default
returns-in_default g c told files log = wants_here told (task.gates c.args.count) files files _ _ [] [] _ log log refl (has_read_nothing files) (has_stored_nothing log) refl (has_written_nothing _)

pub returns-in_default-nodes_text : goal.returns-in_default-nodes_text
returns-in_default-nodes_text g c told files log = wants_here told (task.gates c.args.count) files files _ _ [] [] _ log log refl (has_read_nothing files) (has_stored_nothing log) refl (has_written_nothing _)

pub returns : goal.returns
returns g c told files log =
    let says = rw (c.as_bytes.ensures.value, c.in-Ok-nodes_text.ensures) at c.say.ensures in
    says_so told (task.gates c.args.count) files files _ _ [] None stored_nothing _ _ c.say.result log log (counted c.args.count c.in-Ok.nodes refl c.in-Ok.ensures) (has_read_nothing files) (has_stored_nothing log) says

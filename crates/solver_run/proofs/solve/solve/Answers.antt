use Rattle.std.proofs.Common.{[], ◌∷◌, refl, None}
use Rattle.mg_outside.proofs.EffectLaws.{has_written_nothing}
use Rattle.solver_run.specs.Run.{satisfiable, unsatisfiable}
use Rattle.solver_run.specs.Stores.{stored_nothing}
use Rattle.solver_run.specs.Tasks as task
use Rattle.solver_run.proofs.Runs.{says_so, unread_ends, wants_here}
use Rattle.solver_run.proofs.Writing.{has_stored_nothing}
use Rattle.solver_run.proofs.solve.solve.Goals as goal

pub returns-in-Err : goal.returns-in-Err
returns-in-Err g c log =
    unread_ends (g.F.Files.holds c.args.files.now) (task.solve c.args.file.now) _ _ _ _ c.args.file.now [] c.in-Err.why c.end_unread.result log refl refl c.in-Err.ensures.unread c.end_unread.ensures

pub returns-in-Ok-Least : goal.returns-in-Ok-Least
returns-in-Ok-Least g c log =
    let least = rw c.in-Ok-Least.field-0-is at c.in-Ok-Least.ensures in
    let says = rw c.as_slice.ensures.value at c.say_model.ensures in
    says_so (g.F.Files.holds c.args.files.now) (task.solve c.args.file.now) _ _ _ _ (c.args.file.now ∷ []) None stored_nothing _ _ c.say_model.result log log
    (satisfiable c.args.file.now c.in-Ok.cnf c.in-Ok-Least.values.items refl c.in-Ok.ensures.holds least) c.in-Ok.ensures.read (has_stored_nothing log) says

pub returns-in-Ok-None : goal.returns-in-Ok-None
returns-in-Ok-None g c log =
    let shown = rw c.in-Ok-None.field-0-is at c.in-Ok-None.ensures in
    let says = rw (c.as_bytes.ensures.value, c.no_model_text.ensures) at c.say.ensures in
    says_so (g.F.Files.holds c.args.files.now) (task.solve c.args.file.now) _ _ _ _ (c.args.file.now ∷ []) None stored_nothing _ _ c.say.result log log
    (unsatisfiable c.args.file.now c.in-Ok.cnf _ refl c.in-Ok.ensures.holds shown) c.in-Ok.ensures.read (has_stored_nothing log) says

pub returns : goal.returns
returns g c log =
    wants_here (g.F.Files.holds c.args.files.now) (task.solve c.args.file.now) _ _ _ _ (c.args.file.now ∷ []) [] _ log log refl c.in-Ok.ensures.read (has_stored_nothing log) refl (has_written_nothing _)

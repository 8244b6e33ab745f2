use Rattle.std.proofs.Common.{[], ◌∷◌, refl, None}
use Rattle.mg_outside.proofs.EffectLaws.{has_written_nothing}
use Rattle.solver_run.specs.Run.{satisfiable}
use Rattle.solver_run.specs.Stores.{stored_nothing}
use Rattle.solver_run.specs.Tasks as task
use Rattle.solver_run.proofs.Runs.{says_so, stored_ends, unread_ends, wants_here}
use Rattle.solver_run.proofs.Writing.{has_stored_nothing}
use Rattle.solver_run.proofs.solve.certify.Goals as goal

pub returns-in-Err : goal.returns-in-Err
returns-in-Err g c =
    unread_ends (g.F.Files.holds c.args.files.now) (task.certify c.args.file.now c.args.name.now) _ _ _ _ c.args.file.now [] c.in-Err.why c.end_unread.result (g.T.Store.log c.args.store.now) refl refl c.in-Err.ensures.unread c.end_unread.ensures

pub returns-in-Ok-Least : goal.returns-in-Ok-Least
returns-in-Ok-Least g c =
    let least = rw c.in-Ok-Least.field-0-is at c.in-Ok-Least.ensures in
    let says = rw c.as_slice.ensures.value at c.say_model.ensures in
    let log = g.T.Store.log c.args.store.now in
    says_so (g.F.Files.holds c.args.files.now) (task.certify c.args.file.now c.args.name.now) _ _ _ _ (c.args.file.now ∷ []) None stored_nothing _ _ c.say_model.result log log
    (satisfiable c.args.file.now c.in-Ok.cnf c.in-Ok-Least.values.items refl c.in-Ok.ensures.holds least) c.in-Ok.ensures.read (has_stored_nothing log) says

pub returns-in-Ok-None : goal.returns-in-Ok-None
returns-in-Ok-None g c =
    let shown = rw c.in-Ok-None.field-0-is at c.in-Ok-None.ensures in
    stored_ends (g.F.Files.holds c.args.files.now) c.args.file.now c.args.name.now _ _ _ _ c.in-Ok.cnf c.in-Ok-None.derivation c.store_proof.result _ _ c.in-Ok.ensures.holds shown c.in-Ok.ensures.read c.store_proof.ensures

pub returns-in-Err-solved : goal.returns-in-Err-solved
returns-in-Err-solved g c =
    wants_here (g.F.Files.holds c.args.files.now) (task.certify c.args.file.now c.args.name.now) _ _ _ _ (c.args.file.now ∷ []) [] _ _ _ refl c.in-Ok.ensures.read (has_stored_nothing _) refl (has_written_nothing _)

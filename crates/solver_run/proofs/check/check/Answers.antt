use Rattle.std.proofs.Common.{[], ◌∷◌, refl}
use Rattle.solver_run.specs.Run.{IsNoCertificate}
use Rattle.solver_run.specs.Tasks as task
use Rattle.solver_run.proofs.Readings.{certificate_moves, no_certificate_moves, unread_weaker}
use Rattle.solver_run.proofs.Runs.{judged_ends, unread_ends, unread_proof_ends}
use Rattle.solver_run.proofs.check.check.Goals as goal

pub returns-in-Err : goal.returns-in-Err
returns-in-Err g c log =
    let file = c.args.file.now in
    unread_ends (g.F.Files.holds c.args.files.now) (task.check file c.args.name.now) _ _ _ _ file (c.args.name.now ∷ []) c.in-Err.why c.end_unread.result log refl refl c.in-Err.ensures.unread c.end_unread.ensures

pub returns-in-Err-read_proof : goal.returns-in-Err-read_proof
returns-in-Err-read_proof g c log =
    let name = c.args.name.now in
    let told = g.F.Files.holds c.args.files.now in
    let told' = g.F.Files.holds c.read_formula.new.files in
    unread_proof_ends told c.args.file.now name c.in-Ok.cnf c.in-Ok.ensures.holds _ _ _ _ _ c.end_unread-in-Err-read_proof.result log c.in-Ok.ensures.read c.in-Err-read_proof.why
    (unread_weaker (IsNoCertificate told' name) (IsNoCertificate told name) name _ _ (no_certificate_moves told told' name (c.in-Ok.ensures.same name)) c.in-Err-read_proof.why c.in-Err-read_proof.ensures.unread)
    c.end_unread-in-Err-read_proof.ensures

pub returns : goal.returns
returns g c log =
    let name = c.args.name.now in
    let told = g.F.Files.holds c.args.files.now in
    let told' = g.F.Files.holds c.read_formula.new.files in
    judged_ends told c.args.file.now name c.in-Ok.cnf c.in-Ok.ensures.holds _ _ _ _ _ c.judge.result log c.in-Ok.ensures.read c.in-Ok-read_proof.certificate
    (certificate_moves told told' name (c.in-Ok.ensures.same name) c.in-Ok-read_proof.certificate c.in-Ok-read_proof.ensures.holds) c.in-Ok-read_proof.ensures.read c.judge.ensures

use Rattle.std.proofs.Common.{[], None}
use Rattle.mg_outside.proofs.EffectLaws.{has_read_nothing}
use Rattle.solver_run.specs.Run.{bad_words, effects}
use Rattle.solver_run.specs.RunLines.{usage}
use Rattle.solver_run.specs.Stores.{stored_nothing}
use Rattle.solver_run.specs.Tasks as task
use Rattle.solver_run.proofs.Runs.{form_run}
use Rattle.solver_run.proofs.Writing.{has_stored_nothing}
use Rattle.solver_run.proofs.program.run.Goals as goal

pub returns-in_default : goal.returns-in_default
unfolding usage
returns-in_default g c =
    let none = rw c.in_default.is at c.command_of.ensures.none in
    let says = rw c.as_bytes.ensures.value at c.say.ensures in
    record {
      effects = effects [] None says.writes says.is_refused;
      stored = stored_nothing;
      is_run = bad_words c.say.result says.writes says.is_refused none says.is_said;
      on_files = has_read_nothing _;
      on_sink = says.written;
      on_store = has_stored_nothing _;
    }

pub returns-in-Solve : goal.returns-in-Solve
returns-in-Solve g c =
    let is = rw c.in-Solve.is at c.in-Some.ensures.form in
    form_run _ _ (task.solve c.in-Solve.file.now) _ _ _ _ _ _ c.solve.result is (c.solve.ensures (g.T.Store.log c.args.store.now))

pub returns-in-Certify : goal.returns-in-Certify
returns-in-Certify g c =
    let is = rw c.in-Certify.is at c.in-Some.ensures.form in
    form_run _ _ (task.certify c.in-Certify.file.now c.in-Certify.name.now) _ _ _ _ _ _ c.certify.result is c.certify.ensures

pub returns-in-Check : goal.returns-in-Check
returns-in-Check g c =
    let is = rw c.in-Check.is at c.in-Some.ensures.form in
    form_run _ _ (task.check c.in-Check.file.now c.in-Check.name.now) _ _ _ _ _ _ c.check.result is (c.check.ensures (g.T.Store.log c.args.store.now))

pub returns-in-Compare : goal.returns-in-Compare
returns-in-Compare g c =
    let is = rw c.in-Compare.is at c.in-Some.ensures.form in
    form_run _ _ (task.compare c.in-Compare.asked c.in-Compare.first.now c.in-Compare.second.now) _ _ _ _ _ _ c.compare.result is (c.compare.ensures (g.T.Store.log c.args.store.now))

pub returns-in-Gates : goal.returns-in-Gates
returns-in-Gates g c =
    let is = rw c.in-Gates.is at c.in-Some.ensures.form in
    form_run _ _ (task.gates c.in-Gates.count) _ _ _ _ _ _ c.gates.result is (c.gates.ensures (g.F.Files.holds c.args.files.now) (g.F.Files.log c.args.files.now) (g.T.Store.log c.args.store.now))

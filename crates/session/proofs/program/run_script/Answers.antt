use Rattle.std.proofs.Common.{[], ◌∷◌, None, false, Err, ap, refl}
use Rattle.mg_outside.specs.Effects.{behind}
use Rattle.mg_outside.proofs.EffectLaws.{has_read_then, has_written_nothing}
use Rattle.session.specs.Run.{IsCutShort, effects, no_routers, read, refused, unread, wants}
use Rattle.session.specs.Steps.{script_reason}
use Rattle.session.proofs.Faults.{unread_ends}
use Rattle.session.proofs.Moves.{carried_out_moves}
use Rattle.session.proofs.Ordered.{are_ordered}
use Rattle.session.proofs.Progress.{refusal}
use Rattle.session.proofs.program.run_script.Goals as goal

pub returns-in-Err : goal.returns-in-Err
returns-in-Err g c =
    let file = c.args.name.now in
    let told = c.in-Err.ensures in
    unread_ends _ file (g.F.Files.holds c.args.files.now file) _ _ _ _ c.in-Err.fault c.end_unread.result
    (record {
      explains = told.too_long;
      named = λ no. told.named (λ why. no (cc));
      named_at_most = told.named_at_most;
      rose = λ why. told.failed (ap Err why);
      calm = λ no. told.no_fault (λ why. no (cc));
      at_most_one = told.at_most_one;
      later = told.later;
    })
    c.end_unread.ensures
    (λ failed stop text writes is_refused fails said. unread failed stop c.end_unread.result text writes is_refused fails said)
    (λ reads rest are is. rw is (wants reads rest are tt))

pub carry_out_all-requires : goal.carry_out_all-requires
carry_out_all-requires g c =
    let reads = c.in-Ok-read_script.ensures.read in
    rw c.as_slice-in-Ok-read_script.ensures (are_ordered _ refl None c.in-Ok-read_script.script.statements reads.tokens reads.is)

pub returns-in-Ok-read_script : goal.returns-in-Ok-read_script
returns-in-Ok-read_script g c =
    let file = c.args.name.now in
    let told = c.in-Ok.ensures in
    let gives = rw (← c.as_slice.ensures.value) at told.bytes in
    let script = c.in-Ok-read_script.script in
    let done = rw c.as_slice-in-Ok-read_script.ensures at c.carry_out_all.ensures in
    record {
      effects = behind (file ∷ []) [] done.effects;
      is_run = read c.as_slice.result.now script done.effects c.carry_out_all.result gives c.in-Ok-read_script.ensures.read
          (carried_out_moves (g.F.Files.holds c.read.new.self) (g.F.Files.holds c.args.files.now) told.same IsCutShort file no_routers script.statements done.effects c.carry_out_all.result done.is_run);
      on_files = has_read_then _ _ _ (file ∷ []) done.effects.reads done.effects.failed
          (record { names = told.named (λ same. cc); faults = told.no_fault (λ same. cc) }) done.on_files;
      on_sink = done.on_sink;
    }

pub returns-in-Err-At : goal.returns-in-Err-At
returns-in-Err-At g c =
    let file = c.args.name.now in
    let told = c.in-Ok.ensures in
    let gives = rw (← c.as_slice.ensures.value) at told.bytes in
    let why = c.in-Err-At.reason in
    let refuses = rw c.in-Err-At.field-0-is at c.in-Err-At.ensures.refused in
    let says = rw c.of_script.ensures at c.refuse.ensures in
    record {
      effects = effects (file ∷ []) None says.writes says.refused;
      is_run = refused c.as_slice.result.now c.in-Err-At.line why _ c.refuse.result _ says.writes says.refused gives refuses
          (refusal file c.in-Err-At.line (script_reason why)) says.is_said;
      on_files = record { names = told.named (λ same. cc); faults = told.no_fault (λ same. cc) };
      on_sink = says.written;
    }

pub returns : goal.returns
returns g c =
    let file = c.args.name.now in
    let told = c.in-Ok.ensures in
    record {
      effects = effects (file ∷ []) None [] false;
      is_run = wants (file ∷ []) [] refl tt;
      on_files = record { names = told.named (λ same. cc); faults = told.no_fault (λ same. cc) };
      on_sink = has_written_nothing _;
    }

use Rattle.std.proofs.Common.{◌≡◌, [], ◌∷◌, ◌∙◌, Err, sym, ap}
use Rattle.std.proofs.lemmas.Result.{IfErr-weaker}
use Rattle.mg_outside.proofs.EffectLaws.{has_read_nothing, has_written_nothing}
use Rattle.session.specs.declared.ended.Reason.TheVariants as reason
use Rattle.session.specs.Run.{EndsAt, IsCutShort, effects, stops, wants}
use Rattle.query_lang.specs.declared.script.Kind.TheVariants as kind
use Rattle.session.specs.Text.{router_line}
use Rattle.session.specs.Kept.{adding}
use Rattle.session.specs.Steps.{State, reads_of, ios_reason, with_router, loads, taken, refused, unread, refused_file}
use Rattle.session.proofs.Ends.{stops_here, cut_or_wants_here, wants_here}
use Rattle.session.proofs.Faults.{unread_ends}
use Rattle.session.proofs.Progress.{refusal}
use Rattle.session.proofs.Writing.{both_on_ok}
use Rattle.session.proofs.loading.load.Goals as goal

pub returns-then-is_taken-clause-stopped : goal.returns-then-is_taken-clause-stopped
returns-then-is_taken-clause-stopped g c =
    let used = sym c.is_taken.ensures ∙ c.if-is_taken.true in
    let script = c.args.at.now.script.now in
    let line = c.args.at.now.number in
    stops_here script _ line c.args.state.now (kind.LoadIos c.args.file.now c.args.name.now) _ _ _ _ _ _ c.refuse_line.result
    (refused _ _ _ _ (taken c.args.file.now c.args.name.now used) (refusal script line reason.Duplicate))
    (rw used (has_read_nothing _)) c.refuse_line.ensures

pub returns-in-Err-clause-stopped : goal.returns-in-Err-clause-stopped
returns-in-Err-clause-stopped g c =
    let file = c.args.file.now in
    let name = c.args.name.now in
    let state = c.args.state.now in
    let free = sym c.is_taken.ensures ∙ c.if-is_taken.false in
    let told = c.in-Err.ensures in
    unread_ends _ file (g.F.Files.holds c.args.files.now file) _ _ _ _ c.in-Err.fault c.end_unread.result
    (record {
      explains = told.too_long;
      named = λ no. told.named (λ why. no (cc));
      named_at_most = told.named_at_most;
      rose = λ why. told.failed (ap Err why);
      calm = λ no. told.no_fault (λ why. no (cc));
      at_most_one = told.at_most_one;
      later = told.later;
    })
    c.end_unread.ensures
    (λ failed stop text writes is_refused fails said.
    let ended : EndsAt IsCutShort c.args.at.now.script.now (g.F.Files.holds c.args.files.now) c.args.at.now.number state (kind.LoadIos file name) (effects (reads_of state (kind.LoadIos file name)) failed writes is_refused) c.end_unread.result =
    stops failed stop c.end_unread.result text writes is_refused (unread file name text failed stop free fails) said in
    rw free at ended)
    (λ reads rest are is. rw is (wants reads rest (rw free are) tt))

pub returns-in-Ok-read_router-clause-carried : goal.returns-in-Ok-read_router-clause-carried
returns-in-Ok-read_router-clause-carried g c =
    let router = c.in-Ok-read_router.router in
    let free = sym c.is_taken.ensures ∙ c.if-is_taken.false in
    let told = c.in-Ok.ensures in
    let gives = rw (← c.as_slice.ensures.value) at told.bytes in
    both_on_ok c.add_router.result
    (λ is written.
    let made : c.add_router.new.state ≡ with_router c.args.state.now c.args.name.now router = is ∙ ap (λ (known : State). adding known c.args.name.now router) c.in-Ok-read_router.ensures.names in
    rw made (record {
      pieces = router_line c.args.name.now router ∷ [];
      carries = loads c.args.file.now c.args.name.now c.as_slice.result.now router free gives c.in-Ok-read_router.ensures.read;
      on_files = rw free (record { names = told.named (λ why. cc); faults = told.no_fault (λ why. cc) });
      on_sink = written;
    }))
    c.add_router.ensures.added c.add_router.ensures.written

pub returns-in-Ok-read_router-clause-stopped : goal.returns-in-Ok-read_router-clause-stopped
returns-in-Ok-read_router-clause-stopped g c =
    let router = c.in-Ok-read_router.router in
    let free = sym c.is_taken.ensures ∙ c.if-is_taken.false in
    let told = c.in-Ok.ensures in
    let gives = rw (← c.as_slice.ensures.value) at told.bytes in
    IfErr-weaker c.add_router.result _ _
    (λ end ends. cut_or_wants_here c.args.at.now.script.now _ c.args.at.now.number c.args.state.now (kind.LoadIos c.args.file.now c.args.name.now) _ _ _ _
    (router_line c.args.name.now router) (with_router c.args.state.now c.args.name.now router) end
    (loads c.args.file.now c.args.name.now c.as_slice.result.now router free gives c.in-Ok-read_router.ensures.read)
    (rw free (record { names = told.named (λ why. cc); faults = told.no_fault (λ why. cc) })) ends)
    c.add_router.ensures.cut

pub returns-in-Err-At-clause-stopped : goal.returns-in-Err-At-clause-stopped
returns-in-Err-At-clause-stopped g c =
    let file = c.args.file.now in
    let free = sym c.is_taken.ensures ∙ c.if-is_taken.false in
    let told = c.in-Ok.ensures in
    let gives = rw (← c.as_slice.ensures.value) at told.bytes in
    let why = c.in-Err-At.reason in
    let is_refused = rw c.in-Err-At.field-0-is at c.in-Err-At.ensures.refused in
    let says = rw c.of_ios.ensures at c.refuse.ensures in
    stops_here c.args.at.now.script.now _ c.args.at.now.number c.args.state.now (kind.LoadIos file c.args.name.now) _ _ _ _ _ _ c.refuse.result
    (refused_file file c.args.name.now _ c.as_slice.result.now c.in-Err-At.line why _ free gives is_refused (refusal file c.in-Err-At.line (ios_reason why)))
    (rw free (record { names = told.named (λ same. cc); faults = told.no_fault (λ same. cc) })) says

pub returns-clause-stopped : goal.returns-clause-stopped
returns-clause-stopped g c =
    let free = sym c.is_taken.ensures ∙ c.if-is_taken.false in
    let told = c.in-Ok.ensures in
    wants_here c.args.at.now.script.now _ c.args.at.now.number c.args.state.now (kind.LoadIos c.args.file.now c.args.name.now) _ _ _ _
    (rw free (record { names = told.named (λ same. cc); faults = told.no_fault (λ same. cc) })) (has_written_nothing _)

use Rattle.std.proofs.Common.{[], ◌∷◌, ◌≡◌, Some, sym}
use Rattle.std.proofs.lemmas.Result.{on_ok_weaker, IfErr-weaker}
use Rattle.mg_outside.proofs.EffectLaws.{has_read_nothing, has_written_nothing}
use Rattle.query_lang.specs.declared.script.Kind.TheVariants as kind
use Rattle.session.specs.Kept.{posed}
use Rattle.session.specs.Steps.{shows}
use Rattle.session.proofs.Ends.{cut_here, wants_here}
use Rattle.session.proofs.asking.show.Goals as goal

pub returns-in_default-shown_text-clause-stopped : goal.returns-in_default-shown_text-clause-stopped
returns-in_default-shown_text-clause-stopped g c script told line files =
    wants_here script told line c.args.state.now kind.ShowOne files files _ _ (has_read_nothing files) (has_written_nothing _)

pub returns-clause-carried : goal.returns-clause-carried
returns-clause-carried g c told files =
    let text = c.in-Ok.text.items in
    let question = posed c.in-Some.question.entries.now c.in-Some.question.verdict c.in-Some.question.tests.now c.in-Some.question.names in
    let kept : c.args.state.now.question ≡ Some question = sym (rw c.in-Some.is at c.question.ensures.kept) in
    on_ok_weaker c.write.result
    (λ written. record {
      pieces = text ∷ [];
      carries = shows question text kept c.in-Ok.ensures;
      on_files = has_read_nothing files;
      on_sink = rw c.as_slice.ensures.value at written;
    })
    c.write.ensures.written

pub returns-clause-stopped : goal.returns-clause-stopped
returns-clause-stopped g c script told line files =
    let text = c.in-Ok.text.items in
    let question = posed c.in-Some.question.entries.now c.in-Some.question.verdict c.in-Some.question.tests.now c.in-Some.question.names in
    let kept : c.args.state.now.question ≡ Some question = sym (rw c.in-Some.is at c.question.ensures.kept) in
    IfErr-weaker c.write.result _ _
    (λ end is_cut. cut_here script told line c.args.state.now kind.ShowOne files files _ _ text c.args.state.now end
    (shows question text kept c.in-Ok.ensures) (has_read_nothing files) is_cut)
    (rw c.as_slice.ensures.value at c.write.ensures.cut)

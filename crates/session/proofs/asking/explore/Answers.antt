use Rattle.std.proofs.Common.{sym, ◌∙◌}
use Rattle.mg_outside.proofs.EffectLaws.{has_read_nothing, has_written_nothing}
use Rattle.query_lang.specs.declared.script.Kind.TheVariants as kind
use Rattle.session.specs.Steps.{refused, unknown}
use Rattle.session.proofs.Ends.{stops_here, wants_here}
use Rattle.session.proofs.Progress.{refusal}
use Rattle.session.proofs.asking.explore.Goals as goal

pub returns-in-Ok-Some-clause-stopped : goal.returns-in-Ok-Some-clause-stopped
returns-in-Ok-Some-clause-stopped g c told files =
    let script = c.args.at.now.script.now in
    let line = c.args.at.now.number in
    let explore = c.args.explore.now in
    let why = c.in-Ok-Some.reason in
    let is = sym c.in-Ok-Some.ensures ∙ c.in-Ok-Some.field-0-is in
    stops_here script told line c.args.state.now (kind.Explore explore) files files _ _ _ _ c.refuse_line.result
    (refused _ _ _ _ (unknown explore why is) (refusal script line why))
    (has_read_nothing files) c.refuse_line.ensures

pub returns-in-Err-clause-stopped : goal.returns-in-Err-clause-stopped
returns-in-Err-clause-stopped g c told files =
    wants_here c.args.at.now.script.now told c.args.at.now.number c.args.state.now (kind.Explore c.args.explore.now) files files _ _
    (has_read_nothing files) (has_written_nothing _)

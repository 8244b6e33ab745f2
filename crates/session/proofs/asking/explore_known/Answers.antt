use Rattle.std.proofs.Common.{[], sym, ◌∙◌}
use Rattle.mg_outside.proofs.EffectLaws.{has_read_nothing, has_written_nothing}
use Rattle.query_lang.specs.declared.script.Kind.TheVariants as kind
use Rattle.session.specs.declared.ended.Reason.TheVariants as reason
use Rattle.session.specs.Steps.{explores, no_question, past, refused}
use Rattle.session.proofs.Ends.{stops_here, wants_here}
use Rattle.session.proofs.Known.{asked_is_found, asked_of_packet}
use Rattle.session.proofs.Progress.{refusal}
use Rattle.session.proofs.asking.explore_known.Goals as goal

pub returns-in-Ok-None-clause-stopped : goal.returns-in-Ok-None-clause-stopped
returns-in-Ok-None-clause-stopped g c told files =
    let script = c.args.at.now.script.now in
    let line = c.args.at.now.number in
    let explore = c.args.explore.now in
    let none = rw c.in-Ok-None.field-0-is at c.in-Ok-None.ensures.none in
    stops_here script told line c.args.state.now (kind.Explore explore) files files _ _ _ _ c.refuse_line.result
    (refused _ _ _ _ (no_question explore c.requires none) (refusal script line reason.NotBuilt))
    (has_read_nothing files) c.refuse_line.ensures

pub returns-in-Err-clause-stopped : goal.returns-in-Err-clause-stopped
returns-in-Err-clause-stopped g c told files =
    wants_here c.args.at.now.script.now told c.args.at.now.number c.args.state.now (kind.Explore c.args.explore.now) files files _ _
    (has_read_nothing files) (has_written_nothing _)

pub returns-then-not-all_fit-clause-stopped : goal.returns-then-not-all_fit-clause-stopped
returns-then-not-all_fit-clause-stopped g c told files =
    let script = c.args.at.now.script.now in
    let line = c.args.at.now.number in
    let explore = c.args.explore.now in
    let is_asked = rw c.in-Ok-Some.field-0-is at c.in-Ok-Some.ensures.found in
    let beyond = rw c.as_slice.ensures at (sym c.all_fit.ensures ∙ c.if-not-all_fit.true) in
    stops_here script told line c.args.state.now (kind.Explore explore) files files _ _ _ _ c.refuse_line-then-not-all_fit.result
    (refused _ _ _ _ (past explore c.in-Ok-Some.question c.requires is_asked beyond) (refusal script line reason.OutOfRange))
    (has_read_nothing files) c.refuse_line-then-not-all_fit.ensures

pub returns-in_default-clause-stopped : goal.returns-in_default-clause-stopped
returns-in_default-clause-stopped g c told files =
    wants_here c.args.at.now.script.now told c.args.at.now.number c.args.state.now (kind.Explore c.args.explore.now) files files _ _
    (has_read_nothing files) (has_written_nothing _)

pub unreachable-requires : goal.unreachable-requires
unreachable-requires g c =
    let is_asked = rw c.in-Ok-Some.field-0-is at c.in-Ok-Some.ensures.found in
    let found = asked_is_found c.args.state.now.library c.args.explore.now c.in-Ok-Some.question c.requires is_asked in
    let none = rw (c.in_default-place_of.is, c.as_str.ensures, c.as_str-2.ensures) at c.place_of.ensures.found in
    cc (found.1, none)

pub ask-requires-clause-packet : goal.ask-requires-clause-packet
ask-requires-clause-packet g c =
    let is_asked = rw c.in-Ok-Some.field-0-is at c.in-Ok-Some.ensures.found in
    let are = rw c.as_slice-2.ensures at c.in-Ok.ensures in
    rw are (asked_of_packet c.args.explore.now c.in-Ok-Some.question is_asked)

pub returns-clause-carried : goal.returns-clause-carried
returns-clause-carried g c told files =
    let explore = c.args.explore.now in
    let question = c.in-Ok-Some.question in
    let is_asked = rw c.in-Ok-Some.field-0-is at c.in-Ok-Some.ensures.found in
    let found = asked_is_found c.args.state.now.library explore question c.requires is_asked in
    let at = rw (c.in-Some.is, c.as_str.ensures, c.as_str-2.ensures) at c.place_of.ensures.found in
    let fit = rw c.as_slice.ensures at (sym c.all_fit.ensures ∙ c.if-not-all_fit.false) in
    let are = rw c.as_slice-2.ensures at c.in-Ok.ensures in
    rw (c.ask.ensures found.0 (at ∙ found.1), are) (record {
      pieces = [];
      carries = explores explore question found.0 c.requires is_asked found.1 fit;
      on_files = has_read_nothing files;
      on_sink = has_written_nothing _;
    })

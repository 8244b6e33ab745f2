use Rattle.std.proofs.Common.{[], None}
use Rattle.mg_outside.proofs.EffectLaws.{has_read_nothing}
use Rattle.session.specs.Run.{IsCutShort, bad_words, effects, form}
use Rattle.session.specs.RunLines.{usage}
use Rattle.session.proofs.Blaming.{files_are_blamed, sink_is_blamed}
use Rattle.session.proofs.Completeness.{completes}
use Rattle.session.proofs.WholeRuns.{is_front_of_whole}
use Rattle.session.proofs.program.run.Goals as goal

pub returns-in_default-clause-headline : goal.returns-in_default-clause-headline
unfolding usage
returns-in_default-clause-headline g c =
    let none = rw c.in_default.is at c.script_of.ensures.none in
    let says = rw c.as_bytes.ensures.value at c.say.ensures in
    rw c.by.ensures.cause
    (record {
      effects = effects [] None says.writes says.refused;
      is_run = bad_words c.say.result says.writes says.refused none says.is_said;
      on_files = has_read_nothing _;
      on_sink = says.written;
    })

pub returns-clause-headline : goal.returns-clause-headline
returns-clause-headline g c =
    let done = c.run_script.ensures in
    rw c.by-2.ensures.cause
    (record {
      effects = done.effects;
      is_run = form c.in-Some.name.now done.effects c.run_script.result c.in-Some.ensures.form done.is_run;
      on_files = done.on_files;
      on_sink = done.on_sink;
    })

pub returns-in_default-clause-blames_sink : goal.returns-in_default-clause-blames_sink
returns-in_default-clause-blames_sink g c = sink_is_blamed IsCutShort _ _ _ _ _ _ c.by.result.cause (returns-in_default-clause-headline g c)

pub returns-clause-blames_sink : goal.returns-clause-blames_sink
returns-clause-blames_sink g c = sink_is_blamed IsCutShort _ _ _ _ _ _ c.by-2.result.cause (returns-clause-headline g c)

pub returns-in_default-clause-blames_files : goal.returns-in_default-clause-blames_files
returns-in_default-clause-blames_files g c = files_are_blamed IsCutShort _ _ _ _ _ _ c.by.result.cause (returns-in_default-clause-headline g c)

pub returns-clause-blames_files : goal.returns-clause-blames_files
returns-clause-blames_files g c = files_are_blamed IsCutShort _ _ _ _ _ _ c.by-2.result.cause (returns-clause-headline g c)

pub returns-in_default-clause-whole : goal.returns-in_default-clause-whole
returns-in_default-clause-whole g c = is_front_of_whole _ _ _ _ _ _ c.by.result.cause (returns-in_default-clause-headline g c)

pub returns-clause-whole : goal.returns-clause-whole
returns-clause-whole g c = is_front_of_whole _ _ _ _ _ _ c.by-2.result.cause (returns-clause-headline g c)

pub returns-in_default-clause-complete : goal.returns-in_default-clause-complete
returns-in_default-clause-complete g c answerable calm sure =
    absurd ((rw c.in_default.is at c.script_of.ensures.none) answerable.name answerable.is_form)

pub returns-clause-complete : goal.returns-clause-complete
returns-clause-complete g c answerable calm sure =
    completes _ _ _ _ _ _ c.by-2.result.cause (returns-clause-headline g c) answerable calm sure

use Rattle.std.proofs.Common.{[], ◌∷◌, Err, false, ap}
use Rattle.mg_outside.proofs.EffectLaws.{has_written_one}
use Rattle.solver_run.specs.Run.{whole}
use Rattle.solver_run.proofs.Writing.{refused_is_said, unkept_is_said}
use Rattle.solver_run.proofs.endings.say.Goals as goal

pub returns-in-Ok : goal.returns-in-Ok
returns-in-Ok g c =
    let told = c.in-Ok.ensures in
    record {
      writes = c.args.text.now ∷ [];
      is_refused = false;
      is_said = whole;
      written = has_written_one _ _ c.args.text.now told.ok told.counted (told.no_fault (λ other. cc));
    }

pub returns-in-Err-Failed : goal.returns-in-Err-Failed
returns-in-Err-Failed g c =
    let told = c.in-Err-Failed.ensures in
    refused_is_said _ _ c.args.end c.args.text.now told.err told.counted (told.failed (ap Err c.in-Err-Failed.field-0-is)) told.at_most_one

pub returns-in-Err-NoMemory : goal.returns-in-Err-NoMemory
returns-in-Err-NoMemory g c =
    let told = c.in-Err-NoMemory.ensures in
    let why = c.in-Err-NoMemory.field-0-is in
    unkept_is_said _ _ c.args.end c.args.text.now (told.no_memory (ap Err why)) told.counted (told.no_fault (λ other. cc))

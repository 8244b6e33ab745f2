use Rattle.std.proofs.Common.{[], ◌∷◌, Err, false, ap}
use Rattle.mg_outside.proofs.EffectLaws.{has_written_one}
use Rattle.session.specs.Run.{whole}
use Rattle.session.proofs.Writing.{cut_is_said, piece_cut}
use Rattle.session.proofs.endings.say.Goals as goal

pub returns-in-Ok : goal.returns-in-Ok
returns-in-Ok g c =
    let told = c.in-Ok.ensures in
    record {
      writes = c.args.text.now ∷ [];
      refused = false;
      is_said = whole;
      written = has_written_one _ _ c.args.text.now told.ok told.counted (told.no_fault (λ other. cc));
    }

pub returns-in-Err : goal.returns-in-Err
returns-in-Err g c =
    let told = c.in-Err.ensures in
    rw c.cause_of.ensures (cut_is_said _ _ c.args.end c.args.text.now _
    (piece_cut _ _ c.args.text.now c.in-Err.fault told.err (λ why. told.no_memory (ap Err why)) told.counted
    (λ why. told.failed (ap Err why)) (λ why. told.no_fault (λ other. cc)) told.at_most_one))

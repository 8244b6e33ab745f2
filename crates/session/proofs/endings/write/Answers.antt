use Rattle.std.proofs.Common.{Err, ap}
use Rattle.session.proofs.Writing.{piece_cut}
use Rattle.session.proofs.endings.write.Goals as goal

pub returns-in-Err-clause-cut : goal.returns-in-Err-clause-cut
returns-in-Err-clause-cut g c =
    let told = c.in-Err.ensures in
    rw c.cause_of.ensures (piece_cut _ _ c.args.text.now c.in-Err.fault told.err (λ why. told.no_memory (ap Err why)) told.counted
    (λ why. told.failed (ap Err why)) (λ why. told.no_fault (λ other. cc)) told.at_most_one)

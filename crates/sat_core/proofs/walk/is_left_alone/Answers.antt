use Rattle.std.proofs.Common.{sym}
use Rattle.sat_core.proofs.Forcing.{forced_by, same_lits}
use Rattle.sat_core.proofs.walk.is_left_alone.Goals as goal

pub returns : goal.returns
returns c = forced_by c.args.store.now c.args.table.now c.in-Unit.left c.args.lit c.in-Some.clause.now c.in-Some.ensures.follows (sym c.in-Unit.ensures.outcome) (same_lits c.in-Unit.left c.args.lit c.if-ne.ensures)

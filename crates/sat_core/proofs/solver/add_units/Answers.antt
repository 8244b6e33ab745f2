use Rattle.sat_core.proofs.Assuming.{one_more}
use Rattle.sat_core.proofs.solver.add_units.Goals as goal

pub loop-lit-preserved : goal.loop-lit-preserved
loop-lit-preserved c = one_more c.args.store.now c.loop-lit.store c.add.new.self c.args.lits.now c.in_ok-from_lits.field-0 c.loop-lit.lit-index _ c.loop-lit.invariant c.in_ok-add.ensures.added c.in_ok-from_lits.ensures c.loop-lit-test.true

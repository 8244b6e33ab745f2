use Rattle.std.proofs.Common.{subst, sym}
use Rattle.frame.specs.Comparing.{AreClausesOfTwo}
use Rattle.frame.proofs.Comparisons.{clauses_of_two}
use Rattle.frame.proofs.comparison.comparison_clauses.Goals as goal

pub returns : goal.returns
returns c =
    subst (AreClausesOfTwo c.args.asked c.args.first.now c.args.second.now) (sym c.in_ok-clauses.ensures.formula)
    (clauses_of_two _ _ c.args.asked c.args.first.now c.args.second.now c.in_ok-circuit.ensures c.in_ok-clauses.ensures.circuit)

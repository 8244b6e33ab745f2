use Rattle.dimacs.proofs.OneFormula.{same_formula, same_fault, not_both, not_neither}
use Rattle.dimacs.proofs.laws.one_formula.Goals as goal

pub returns-clause-same_formula : goal.returns-clause-same_formula
returns-clause-same_formula c = same_formula

pub returns-clause-same_fault : goal.returns-clause-same_fault
returns-clause-same_fault c = same_fault

pub returns-clause-not_both : goal.returns-clause-not_both
returns-clause-not_both c = not_both

pub returns-clause-not_neither : goal.returns-clause-not_neither
returns-clause-not_neither c = not_neither

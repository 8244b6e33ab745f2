use Rattle.combiners.proofs.PolicyFormulas.{applies_right, decision_right, matches_right}
use Rattle.combiners.proofs.laws.formula_is_right.Goals as goal

pub returns-clause-decisions : goal.returns-clause-decisions
returns-clause-decisions g c = decision_right g.U.Universe.answers

pub returns-clause-matches : goal.returns-clause-matches
returns-clause-matches g c = matches_right g.U.Universe.answers

pub returns-clause-applications : goal.returns-clause-applications
returns-clause-applications g c = applies_right g.U.Universe.answers

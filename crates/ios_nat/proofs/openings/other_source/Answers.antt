use Rattle.std.proofs.Common.{◌∷◌}
use Rattle.ios_nat.proofs.openings.other_source.Goals as goal

pub returns-in_err-rest-clause-none : goal.returns-in_err-rest-clause-none
returns-in_err-rest-clause-none c = rw c.from_residual.ensures (λ word more whole. c.in_err-rest.ensures.none (word ∷ more) whole)

pub returns-clause-found : goal.returns-clause-found
returns-clause-found c = (c.in_ok-word.field-0-1.now, rw c.in_ok-word.ensures.cases.0 at c.in_ok-rest.ensures.found)

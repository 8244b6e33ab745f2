use Rattle.ios_nat.proofs.NoKind.{none_opens}
use Rattle.ios_nat.proofs.openings.opening.Goals as goal

pub returns-in_err-rest-clause-none : goal.returns-in_err-rest-clause-none
returns-in_err-rest-clause-none c =
    let no_static = rw c.opening.ensures at c.in_default.ensures.none in
    let no_dynamic = rw c.opening-2.ensures at c.in_default-behind.ensures.none in
    let no_pool = rw c.opening-3.ensures at c.in_err-rest.ensures.none in
    rw c.from_residual.ensures (none_opens c.args.words.now no_static no_dynamic no_pool)

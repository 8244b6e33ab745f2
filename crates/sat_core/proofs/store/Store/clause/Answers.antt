use Rattle.std.proofs.Common.{subst}
use Rattle.cnf.specs.Clauses.{Formula, Follows}
use Rattle.sat_core.proofs.Learning.{follows_all}
use Rattle.sat_core.proofs.store.Store.clause.Goals as goal

pub returns-clause-follows : goal.returns-clause-follows
returns-clause-follows c =
    let cnf = c.self.inside.cnf in
    let lits = c.in-Some.lits.now in
    subst (λ (f : Formula). Follows f.vars f.clauses lits) c.self.view_is (follows_all cnf.vars cnf.clauses c.in-Some.field-0-1 lits c.in-Some.ensures)

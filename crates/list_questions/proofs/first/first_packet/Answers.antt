use Rattle.std.proofs.Common.{◌≡◌, ◌++◌, [], List, append-nil, ap, subst}
use Rattle.cnf.specs.Order.{IsLeast}
use Rattle.sat_core.specs.Solving.{Answers, IsRefutation}
use Rattle.proof_check.proofs.Sound.{refuted_have_no_model}
use Rattle.list_questions.proofs.first.first_packet.Goals as goal

pub returns-in-Least-clause-found : goal.returns-in-Least-clause-found
returns-in-Least-clause-found g c =
    let clauses = c.in_ok-clauses.clauses in
    let answers = rw c.in-Least.is at c.in_ok-model.ensures.answers in
    let least : IsLeast clauses.vars clauses.clauses c.in-Least.model.items = rw (c.in_ok-solver.ensures, append-nil clauses.clauses) at answers in
    c.in_ok-clauses.ensures.first c.in-Least.model.items c.model_packet.result least (rw c.as_slice.ensures.value at c.model_packet.ensures)

pub returns-clause-none : goal.returns-clause-none
returns-clause-none g c =
    let clauses = c.in_ok-clauses.clauses in
    let answers = rw c.in-None.is at c.in_ok-model.ensures.answers in
    let refuted : IsRefutation clauses.vars clauses.clauses c.in-None.field-0 = rw (c.in_ok-solver.ensures, append-nil clauses.clauses) at answers in
    c.in_ok-clauses.ensures.none (λ values model. refuted_have_no_model clauses.vars clauses.clauses c.in-None.field-0 values refuted.accepted model)

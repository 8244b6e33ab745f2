use Rattle.std.proofs.Common.{◌≤◌, subst, sym}
use Rattle.proof_check.proofs.Sound.{refuted_have_no_model}
use Rattle.solver_run.proofs.ShownPackets.{model_has_packet}
use Rattle.solver_run.proofs.laws.comparisons_are_right.Goals as goal

pub returns-clause-packet : goal.returns-clause-packet
returns-clause-packet c asked first second f values clauses model = model_has_packet values (subst (λ n. 128 ≤ n) (sym model.count) clauses.bits)

pub returns-clause-shown : goal.returns-clause-shown
returns-clause-shown c asked first second f values packet clauses model bits = clauses.shown values packet model bits

pub returns-clause-none : goal.returns-clause-none
returns-clause-none c asked first second f items clauses shown packet is =
    clauses.none (λ values model. refuted_have_no_model f.vars f.clauses items values shown.accepted model) packet is

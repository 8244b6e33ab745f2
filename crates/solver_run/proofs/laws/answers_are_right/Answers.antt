use Rattle.std.proofs.Common.{arith}
use Rattle.certificates.proofs.WrittenAgain.{written_is_read}
use Rattle.proof_check.proofs.Sound.{refuted_have_no_model}
use Rattle.solver_run.specs.Run.{certificate_of}
use Rattle.solver_run.proofs.laws.answers_are_right.Goals as goal

pub returns-clause-no_model : goal.returns-clause-no_model
returns-clause-no_model c vars clauses items shown values model = refuted_have_no_model vars clauses items values shown.accepted model

pub returns-clause-read : goal.returns-clause-read
returns-clause-read c vars clauses items shown =
    (written_is_read (certificate_of items) (record { line = omega arith; items = shown.writable }), shown.accepted)

pub returns-clause-accepted : goal.returns-clause-accepted
returns-clause-accepted c vars clauses items accepted values model = refuted_have_no_model vars clauses items values accepted model

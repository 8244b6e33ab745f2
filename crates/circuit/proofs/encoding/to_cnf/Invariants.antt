use Rattle.std.proofs.Common.{◌≡◌, drop, length}
use Rattle.circuit.specs.Clauses.{clauses_of, variables, value_clauses}
use Rattle.cnf.specs.Clauses.{with_clauses}
use Rattle.circuit.proofs.encoding.to_cnf.Given as goal

abbrev pub invariant-loop-place : goal.invariant-loop-place
invariant-loop-place l =
    with_clauses l.formula (clauses_of (variables l.gates) (drop l.place (variables l.gates)) (drop l.place l.gates))
    ≡ record { vars = length l.gates; clauses = value_clauses l.gates }

use Rattle.std.proofs.Common.{◌≡◌, drop}
use Rattle.proof_check.specs.Derivations.{first_fault, fault_of}
use Rattle.proof_check.proofs.checking.check.Given as goal

abbrev pub invariant-loop-item : goal.invariant-loop-item
invariant-loop-item l = record {
  vars : l.checker.vars ≡ l.fn.cnf.vars;
  items : l.checker.progress.items ≡ l.item-index;
  rest : first_fault l.checker.vars l.checker.progress (drop l.item-index l.items) ≡ fault_of l.fn.cnf.vars l.fn.cnf.clauses l.fn.derivation;
}

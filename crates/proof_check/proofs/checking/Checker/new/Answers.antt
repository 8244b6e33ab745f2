use Rattle.std.proofs.Common.{◌≡◌, length, replicate, None, Option, Bool, map, Some, rules, ap, ◌∙◌}
use Rattle.std.proofs.lemmas.List.{length-replicate}
use Rattle.cnf.specs.Clauses.{IsInRange}
use Rattle.proof_check.proofs.Living.{Each-given}
use Rattle.proof_check.proofs.checking.Checker.new.Goals as goal

pub invariant_of-result : goal.invariant_of-result
invariant_of-result c =
    let blank : c.in_ok-table.table ≡ replicate {A = Option Bool} c.args.cnf.now.vars None = search rules in
    let vars : length c.in_ok-table.table ≡ c.args.cnf.now.vars = ap length blank ∙ length-replicate c.args.cnf.now.vars None in
    let live : c.in_ok-live.live ≡ map Some c.clauses.result.now = search rules in
    record {
      blank = rw vars blank;
      in_range = rw (vars, live) (Each-given (IsInRange c.args.cnf.now.vars) c.clauses.result.now (rw c.clauses.ensures.clauses c.clauses.ensures.in_range));
      steps = search rules;
    }

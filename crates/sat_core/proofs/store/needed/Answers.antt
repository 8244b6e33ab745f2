use Rattle.std.proofs.Common.{◌≡◌, ◌≤◌, ◌∙◌, length, arith, refl, sym, ap, subst, None, Option, Bool, rules}
use Rattle.std.proofs.lemmas.List.{length-replicate}
use Rattle.cnf.specs.Clauses.{IsInRange}
use Rattle.sat_core.proofs.Learning.{begins, goes_on, ends}
use Rattle.sat_core.proofs.store.needed.Goals as goal

pub loop-hint-init : goal.loop-hint-init
loop-hint-init c = record {
  len = refl;
  refuting = begins c.args.cnf.now.vars c.args.cnf.now.clauses c.args.lits.now c.args.table.now c.assume.new.self _ c.requires.blank refl c.if-not-assume.ensures.assumed;
}

pub returns-in-Conflict-clause-follows : goal.returns-in-Conflict-clause-follows
returns-in-Conflict-clause-follows c =
    let r = c.loop-hint.invariant.refuting in
    let known = c.in-Some.ensures in
    let long : length c.args.table.now ≡ c.args.cnf.now.vars = ap length c.requires.blank ∙ length-replicate {A = Option Bool} c.args.cnf.now.vars None in
    let count : c.len.result ≡ c.args.cnf.now.vars = c.len.ensures ∙ long in
    let ranged : IsInRange c.args.cnf.now.vars c.args.lits.now = subst (λ n. IsInRange n c.args.lits.now) count c.if-not-are_in_range.ensures.yes in
    let least : c.loop-hint.needs ≤ c.max-needs.result = omega (arith, c.max-needs.ensures) in
    let more : c.in-Some.more ≤ c.max-needs.result = omega (arith, c.max-needs.ensures) in
    let there : c.max-needs.result ≤ length c.args.cnf.now.clauses = omega (arith, c.max-needs.ensures, r.there, known.there) in
    ends c.args.cnf.now.vars c.args.cnf.now.clauses c.loop-hint.needs c.in-Some.more c.max-needs.result c.args.lits.now c.in-Some.clause.now c.loop-hint.table r known least more there ranged (sym c.in-Conflict.ensures.outcome)

pub loop-hint-preserved : goal.loop-hint-preserved
loop-hint-preserved c =
    let r = c.loop-hint.invariant.refuting in
    let known = c.in-Some.ensures in
    let least : c.loop-hint.needs ≤ c.max-needs.result = omega (arith, c.max-needs.ensures) in
    let more : c.in-Some.more ≤ c.max-needs.result = omega (arith, c.max-needs.ensures) in
    let there : c.max-needs.result ≤ length c.args.cnf.now.clauses = omega (arith, c.max-needs.ensures, r.there, known.there) in
    let next = goes_on c.args.cnf.now.vars c.args.cnf.now.clauses c.loop-hint.needs c.in-Some.more c.max-needs.result c.args.lits.now c.in-Some.clause.now c.loop-hint.table c.in-Unit.lit r known least more there (sym c.in-Unit.ensures.outcome) in
    record {
      len = search rules;
      refuting = rw c.set_true.ensures next;
    }

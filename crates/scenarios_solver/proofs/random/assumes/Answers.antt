use Rattle.std.proofs.Common.{◌≡◌, ◌∙◌, ◌∷◌, [], ap, sym, subst}
use Rattle.cnf.specs.Clauses.{Formula, IsInRange}
use Rattle.sat_core.specs.Solving.{Standing}
use Rattle.scenarios_solver.proofs.random.assumes.Goals as goal

pub answer_assuming-requires : goal.answer_assuming-requires
answer_assuming-requires c =
    let asked : c.in_ok-solver.solver.given.vars ≡ c.in_ok-cnf.cnf.vars = ap (λ (s : Standing). s.given.vars) c.in_ok-solver.ensures ∙ ap (λ (f : Formula). f.vars) c.in_ok-copy.ensures in
    let vars : c.in_ok-with.with.vars ≡ c.in_ok-solver.solver.given.vars = ap (λ (f : Formula). f.vars) c.in_ok-with.ensures ∙ sym asked in
    subst (λ n. IsInRange n (c.new-lit.result ∷ [])) vars (subst (IsInRange c.in_ok-with.with.vars) c.in_ok-from_lits.ensures c.in_ok-push.ensures.in_range)

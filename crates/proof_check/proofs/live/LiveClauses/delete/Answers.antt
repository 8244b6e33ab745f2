use Rattle.std.proofs.Common.{◌≡◌, ◌<◌, ◌-◌, is_some, true, not, sym, ap, ◌∙◌, subst}
use Rattle.proof_check.specs.Derivations.{without}
use Rattle.proof_check.proofs.Places.{without-place, copied_set, number_of_some}
use Rattle.cnf.specs.Clauses.{IsInRange}
use Rattle.proof_check.specs.Inside.Each.{Each}
use Rattle.proof_check.proofs.Living.{Each-without}
use Rattle.proof_check.proofs.live.LiveClauses.delete.Goals as goal

pub returns-clause-after : goal.returns-clause-after
returns-clause-after c =
    let items = c.self.inside.clauses.items in
    let number = c.args.number in
    let some_clause : is_some c.get.result ≡ true = c.is_none.ensures ∙ ap not c.if-is_none.false in
    let some : 0 < number = number_of_some c.args.self.now number c.get.result c.get.ensures some_clause in
    copied_set items (number - 1) ∙ sym (without-place _ number some) ∙ ap (λ live. without live number) c.self.view_is

pub returns-clause-in_range : goal.returns-clause-in_range
returns-clause-in_range c = λ vars h.
    subst (λ live. Each (IsInRange vars) live) (sym (returns-clause-after c)) (Each-without (IsInRange vars) c.args.self.now c.args.number h)

use Rattle.std.proofs.Common.{rules, ◌≡◌, ◌++◌, ◌∷◌, [], IfErr, false, length, sym, subst, ◌∙◌}
use Rattle.sorted_logic.specs.Adding.{IsReason}
use Rattle.sorted_logic.specs.Inside.Kept.{meant_sort}
use Rattle.sorted_logic.specs.Signature.{Signature, IsHierarchy}
use Rattle.sorted_logic.proofs.Declaring.{known_is_taken}
use Rattle.sorted_logic.proofs.Growing.{kept_with_sort, taken_as_known}
use Rattle.sorted_logic.proofs.signature.Sig.push_sort.Goals as goal

pub returns-in_err-add-clause-reason : goal.returns-in_err-add-clause-reason
returns-in_err-add-clause-reason c = subst (λ taken. IfErr c.from_residual.result (IsReason taken false))
    (taken_as_known c.self.inside.names _ c.args.self.now c.self.invariant c.self.view_is c.args.decl.name) (search rules)

pub invariant_of-self-else-is_err : goal.invariant_of-self-else-is_err
invariant_of-self-else-is_err c =
    let sig : Signature = (record {
      sorts = c.self.inside.sorts;
      functions = c.self.inside.functions;
      relations = c.self.inside.relations;
      disjoint = c.self.inside.disjoint;
    }) in
    let pushed : c.push.new.self ≡ c.self.inside.sorts ++ c.args.decl ∷ [] = search rules in
    let named : c.add.new.self ≡ c.self.inside.names ++ meant_sort (length c.self.inside.sorts) c.args.decl ∷ [] = search rules in
    rw (named, pushed) (kept_with_sort c.self.inside.names sig c.args.decl c.self.invariant
    (sym (known_is_taken c.self.inside.names sig c.self.invariant.meant c.args.decl.name) ∙ c.in_ok-add.ensures.new)
    (subst (λ s. IsHierarchy (s.sorts ++ c.args.decl ∷ [])) (sym c.self.view_is) c.requires.hierarchy) c.requires.bits)

pub returns-clause-new : goal.returns-clause-new
returns-clause-new c =
    sym (taken_as_known c.self.inside.names _ c.args.self.now c.self.invariant c.self.view_is c.args.decl.name) ∙ c.in_ok-add.ensures.new

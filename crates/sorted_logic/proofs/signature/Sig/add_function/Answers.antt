use Rattle.std.proofs.Common.{rules, ◌≡◌, ◌<◌, ◌++◌, ◌∷◌, [], IfErr, false, length, sym, subst, ◌∙◌}
use Rattle.sorted_logic.specs.declared.declarations.Symbol.TheVariants as symbol
use Rattle.sorted_logic.specs.Adding.{IsReason}
use Rattle.sorted_logic.specs.Signature.{Signature, AreSorts}
use Rattle.sorted_logic.proofs.Declaring.{known_is_taken}
use Rattle.sorted_logic.proofs.Growing.{kept_with_function, taken_as_known}
use Rattle.sorted_logic.proofs.signature.Sig.add_function.Goals as goal

pub returns-in_err-add-clause-reason : goal.returns-in_err-add-clause-reason
returns-in_err-add-clause-reason c = subst (λ taken. IfErr c.from_residual-in_err-add.result (IsReason taken false))
    (taken_as_known c.self.inside.names _ c.args.self.now c.self.invariant c.self.view_is c.args.name.now) (search rules)

pub invariant_of-self-else-is_err : goal.invariant_of-self-else-is_err
invariant_of-self-else-is_err c =
    let sig : Signature = (record {
      sorts = c.self.inside.sorts;
      functions = c.self.inside.functions;
      relations = c.self.inside.relations;
      disjoint = c.self.inside.disjoint;
    }) in
    let pushed : c.push.new.self ≡ c.self.inside.functions ++ (record { name = c.args.name.now; args = c.args.args.now; result = c.args.result_sort }) ∷ [] = search rules in
    let named : c.add.new.self ≡ c.self.inside.names
    ++ (record { name = c.args.name.now; symbol = symbol.Func (record { 0 = length c.self.inside.functions }) }) ∷ [] = search rules in
    rw (named, pushed) (kept_with_function c.self.inside.names sig (record { name = c.args.name.now; args = c.args.args.now; result = c.args.result_sort })
    c.self.invariant
    (sym (known_is_taken c.self.inside.names sig c.self.invariant.meant c.args.name.now) ∙ search rules)
    (subst (λ s. AreSorts s.sorts c.args.args.now) (sym c.self.view_is) c.requires.args)
    (subst (λ s. c.args.result_sort.0 < length s.sorts) (sym c.self.view_is) c.requires.result))

pub returns-clause-new : goal.returns-clause-new
returns-clause-new c =
    sym (taken_as_known c.self.inside.names _ c.args.self.now c.self.invariant c.self.view_is c.args.name.now) ∙ search rules

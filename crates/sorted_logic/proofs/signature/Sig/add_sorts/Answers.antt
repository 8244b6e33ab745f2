use Rattle.std.proofs.Common.{rules, ◌≡◌, ◌++◌, IfErr, false, length, sym, subst, ◌∙◌}
use Rattle.sorted_logic.specs.Adding.{IsReason}
use Rattle.sorted_logic.specs.Inside.Kept.{any_known, meant_sorts}
use Rattle.sorted_logic.specs.Signature.{IsHierarchy}
use Rattle.sorted_logic.proofs.Declaring.{any_known_is_taken}
use Rattle.sorted_logic.proofs.Growing.{kept_with_sorts, any_taken_as_known}
use Rattle.sorted_logic.proofs.signature.Sig.add_sorts.Goals as goal

pub returns-in_err-add_sorts-clause-reason : goal.returns-in_err-add_sorts-clause-reason
returns-in_err-add_sorts-clause-reason c = subst (λ taken. IfErr c.from_residual-in_err-add_sorts.result (IsReason taken false))
    (any_taken_as_known c.self.inside.names _ c.args.self.now c.self.invariant c.self.view_is c.args.decls.now) (search rules)

pub invariant_of-self-2 : goal.invariant_of-self-2
invariant_of-self-2 c =
    let free : any_known c.self.inside.names (length c.self.inside.sorts) c.args.decls.now ≡ false = search rules in
    let named : c.add_sorts.new.self ≡ c.self.inside.names ++ meant_sorts (length c.self.inside.sorts) c.args.decls.now = search rules in
    let both : c.copy_onto-2.new.sorts ≡ c.self.inside.sorts ++ c.args.decls.now = search rules in
    rw (named, both) (kept_with_sorts c.self.inside.names _ c.args.decls.now c.self.invariant
    (sym (any_known_is_taken c.self.inside.names _ c.args.decls.now c.self.invariant.meant) ∙ free)
    (subst (λ s. IsHierarchy (s.sorts ++ c.args.decls.now)) (sym c.self.view_is) c.requires.hierarchy) c.requires.bits)

pub returns-clause-new : goal.returns-clause-new
returns-clause-new c =
    let free : any_known c.self.inside.names (length c.self.inside.sorts) c.args.decls.now ≡ false = search rules in
    sym (any_taken_as_known c.self.inside.names _ c.args.self.now c.self.invariant c.self.view_is c.args.decls.now) ∙ free

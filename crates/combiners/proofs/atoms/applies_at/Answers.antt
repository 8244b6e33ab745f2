use Rattle.std.proofs.Common.{rules, ◌≡◌, None, IfOk, slice_get, sym, subst, ap, ◌∙◌}
use Rattle.sorted_logic.specs.Trees.{formula_tree}
use Rattle.sorted_logic.proofs.TreeEquations.{tree_of_false}
use Rattle.combiners.specs.Making.{applies_tree}
use Rattle.combiners.proofs.Unfolding.{tree_of_children, tree_of_none, tree_of_rules}
use Rattle.combiners.proofs.atoms.applies_at.Goals as goal

pub returns-in-Rules : goal.returns-in-Rules
returns-in-Rules c = subst (λ tree. IfOk c.rule_applies.result (λ made. formula_tree made ≡ applies_tree tree c.args.rule))
    (sym (tree_of_rules c.args.set.now c.args.place c.in-Some.policy.now c.in-Rules.rules
    (sym c.in-Some.ensures.value) c.in-Rules.is))
    c.rule_applies.ensures

pub returns-in-None : goal.returns-in-None
returns-in-None c =
    let none : slice_get c.args.set.now.policies c.args.place ≡ None = search rules in
    tree_of_false ∙ sym (ap (λ tree. applies_tree tree c.args.rule) (tree_of_none c.args.set.now c.args.place none))

pub returns-in-Children : goal.returns-in-Children
returns-in-Children c = tree_of_false ∙ sym (ap (λ tree. applies_tree tree c.args.rule)
    (tree_of_children c.args.set.now c.args.place c.in-Some.policy.now _ (sym c.in-Some.ensures.value) c.in-Children.is))

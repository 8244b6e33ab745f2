use Rattle.std.proofs.Common.{◌≡◌, ℕ, List, IfOk, map, sym, ap, ap₂, ◌∙◌, subst, arith}
use Rattle.std.proofs.Math.Seq.{drop-length}
use Rattle.std.specs.List.{flat_map}
use Rattle.sorted_logic.specs.Syntax.{FormulaTree, negation}
use Rattle.sorted_logic.specs.Trees.{formula_tree}
use Rattle.sorted_logic.proofs.TreeEquations.{tree_of_false}
use Rattle.combiners.specs.declared.policy.Parts.TheVariants as parts_of
use Rattle.combiners.specs.Inside.ChildFormulas.{child_formulas}
use Rattle.combiners.specs.Making.{any_of, both, decision_of_children, decisions_before}
use Rattle.combiners.proofs.Unfolding.{decision_at_rules, decision_at_children, first_step}
use Rattle.combiners.proofs.decisions.+decision.Goals as goal

pub decision_of_children-returns-in_ok-not-in-Over : goal.decision_of_children-returns-in_ok-not-in-Over
decision_of_children-returns-in_ok-not-in-Over t c =
    let children = child_formulas c.args.set.now c.args.levels c.args.children.now in
    let each : List ℕ → List FormulaTree = λ decisions. flat_map (λ child. map child decisions) children in
    let before : List ℕ → List ℕ = λ order. decisions_before order c.args.decisions c.args.decision in
    let e = ap each (c.as_slice-in-Over.ensures.value ∙ c.in_ok-earlier-in-Over.ensures ∙ ap before c.as_slice.ensures) in
    let some = c.any_of-some.ensures ∙ ap any_of c.in_ok-deciding-in-Over.ensures in
    let none = c.in_ok-not-in-Over.ensures
    ∙ ap (λ parts. negation parts) (c.any_of-before.ensures ∙ ap any_of (c.in_ok-deciding_any-in-Over.ensures ∙ e)) in
    let same : both (formula_tree c.any_of-some.result) (formula_tree c.in_ok-not-in-Over.field-0)
    ≡ decision_of_children c.args.comb.now c.args.decisions children c.args.decision = rw c.in-Over.is (ap₂ both some none) in
    subst (λ tree. IfOk c.both.result (λ made. formula_tree made ≡ tree)) same c.both.ensures

pub decision_within-returns-in-Rules : goal.decision_within-returns-in-Rules
decision_within-returns-in-Rules t c = subst (λ tree. IfOk c.decision_of_rules.result (λ made. formula_tree made ≡ tree))
    (decision_at_rules c.args.set.now c.args.levels c.args.place c.args.decision c.in-Some.policy.now c.if-levels-eq0.false
    (sym c.in-Some.ensures.value) c.as_slice.result.now (c.in-Rules.is ∙ ap parts_of.Rules (sym c.as_slice.ensures)))
    c.decision_of_rules.ensures

pub decision_within-returns-in-Children : goal.decision_within-returns-in-Children
decision_within-returns-in-Children t c = let e = c.len.ensures in
    subst (λ tree. IfOk c.decision_of_children.result (λ made. formula_tree made ≡ tree))
    (rw e (decision_at_children c.args.set.now c.args.levels c.args.place c.args.decision c.in-Some.policy.now
    c.if-levels-eq0.false
    (sym c.in-Some.ensures.value) c.as_slice-in-Children.result.now
    (c.in-Children.is ∙ ap parts_of.Children (sym c.as_slice-in-Children.ensures))))
    c.decision_of_children.ensures

pub first_child-loop-at-init : goal.first_child-loop-at-init
first_child-loop-at-init t c = record
    { within = omega arith; all = c.in_ok-all.ensures; said = rw (drop-length c.args.children.now) tree_of_false }

pub first_child-loop-at-preserved : goal.first_child-loop-at-preserved
first_child-loop-at-preserved t c = record {
  within = omega arith;
  all = c.loop-at.invariant.all;
  said = c.in_ok-rest.ensures
      ∙ first_step c.args.set.now c.args.levels c.args.decisions c.args.decision c.loop-at.at c.args.children.now
      c.as_slice.result.now (formula_tree c.loop-at.rest) (omega arith) c.loop-at.invariant.within
      (c.as_slice.ensures.value ∙ c.loop-at.invariant.all) c.loop-at.invariant.said;
}

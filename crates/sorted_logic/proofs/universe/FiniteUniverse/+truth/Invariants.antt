use Rattle.std.proofs.Common.{◌≡◌, ◌&&◌, ◌||◌, not, true, false, drop, map, ◌++◌, [], ◌∷◌}
use Rattle.sorted_logic.specs.Finite.{answers}
use Rattle.sorted_logic.specs.Inside.Evaluation.{scope, all_below, any_below, agree, evaluation}
use Rattle.sorted_logic.specs.Trees.{formula_tree, conjunction, disjunction, equivalence}
use Rattle.sorted_logic.proofs.universe.FiniteUniverse.+truth.Given as goal

abbrev pub invariant-every_part-loop-part : goal.invariant-every_part-loop-part
invariant-every_part-loop-part l = evaluation (answers l.self) l.self.size
    (conjunction (map formula_tree (drop l.part-index l.parts))) (scope l.env)
    ≡ evaluation (answers l.self) l.self.size (conjunction (map formula_tree l.parts)) (scope l.env)

abbrev pub invariant-some_part-loop-part : goal.invariant-some_part-loop-part
invariant-some_part-loop-part l = evaluation (answers l.self) l.self.size
    (disjunction (map formula_tree (drop l.part-index l.parts))) (scope l.env)
    ≡ evaluation (answers l.self) l.self.size (disjunction (map formula_tree l.parts)) (scope l.env)

abbrev pub invariant-equal_parts-loop-part : goal.invariant-equal_parts-loop-part
invariant-equal_parts-loop-part l =
    agree l.is_even (evaluation (answers l.self) l.self.size (equivalence (map formula_tree (drop l.part-index l.parts)))
    (scope l.env))
    ≡ evaluation (answers l.self) l.self.size (equivalence (map formula_tree l.parts)) (scope l.env)

abbrev pub invariant-every_element-loop-e : goal.invariant-every_element-loop-e
invariant-every_element-loop-e l = all_below l.e (λ e. not ((answers l.self).has l.s.0 e)
    || evaluation (answers l.self) l.self.size (formula_tree l.body) (scope l.env ++ e ∷ [])) ≡ true

abbrev pub invariant-some_element-loop-e : goal.invariant-some_element-loop-e
invariant-some_element-loop-e l = any_below l.e (λ e. (answers l.self).has l.s.0 e
    && evaluation (answers l.self) l.self.size (formula_tree l.body) (scope l.env ++ e ∷ [])) ≡ false

use Rattle.std.proofs.Common.{◌≡◌, ◌+◌, ◌*◌, ◌||◌, not, true, ◌++◌, [], ◌∷◌, length}
use Rattle.sorted_logic.specs.Finite.{answers}
use Rattle.sorted_logic.specs.Inside.Evaluation.{scope, all_below}
use Rattle.sorted_logic.specs.Inside.UniverseTests.{is_valued, each_choice}
use Rattle.sorted_logic.proofs.universe.FiniteUniverse.+choices.Given as goal

abbrev pub decreases-each_choice : goal.decreases-each_choice
decreases-each_choice l = 2 * length l.sorts.now

abbrev pub decreases-each_first_choice : goal.decreases-each_first_choice
decreases-each_first_choice l = 2 * length l.others.now + 1

abbrev pub invariant-each_first_choice-loop-e : goal.invariant-each_first_choice-loop-e
invariant-each_first_choice-loop-e l = all_below l.e (λ e. not ((answers l.self).has l.s.0 e)
    || each_choice (answers l.self) l.self.size (is_valued (answers l.self) l.f l.d) l.others (scope l.chosen ++ e ∷ []))
    ≡ true

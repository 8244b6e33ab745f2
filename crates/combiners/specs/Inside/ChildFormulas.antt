-- What children decide, as formulas, so many levels deep.
use Rattle.std.specs.Prelude.{ℕ, List, map}
use Rattle.sorted_logic.specs.Syntax.{FormulaTree}
use Rattle.combiners.specs.declared.policy.PolicySet.{PolicySet}
use Rattle.combiners.specs.Making.{decision_tree}
use Rattle.combiners.specs.Tree.{tree_within}

abbrev pub child_formulas : PolicySet → ℕ → List ℕ → List (ℕ → FormulaTree)
child_formulas set levels places = map (λ place d. decision_tree (tree_within set levels place) d) places

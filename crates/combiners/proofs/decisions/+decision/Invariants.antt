use Rattle.std.proofs.Common.{◌≡◌, ◌≤◌, ◌+◌, ◌*◌, ◌++◌, length, map, drop}
use Rattle.std.specs.List.{flat_map}
use Rattle.sorted_logic.specs.Trees.{formula_tree}
use Rattle.combiners.specs.Inside.ChildFormulas.{child_formulas}
use Rattle.combiners.specs.Making.{decision_tree, decisions_below, first_child}
use Rattle.combiners.specs.Tree.{tree_within}
use Rattle.combiners.proofs.decisions.+decision.Given as goal

-- Each level is five calls deep.

abbrev pub decreases-decision_within : goal.decreases-decision_within
decreases-decision_within l = 5 * l.levels

abbrev pub decreases-decisions_of : goal.decreases-decisions_of
decreases-decisions_of l = 5 * l.levels + 1

abbrev pub decreases-deciding : goal.decreases-deciding
decreases-deciding l = 5 * l.levels + 1

abbrev pub decreases-deciding_any : goal.decreases-deciding_any
decreases-deciding_any l = 5 * l.levels + 2

abbrev pub decreases-with_child : goal.decreases-with_child
decreases-with_child l = 5 * l.levels + 2

abbrev pub decreases-first_child : goal.decreases-first_child
decreases-first_child l = 5 * l.levels + 3

abbrev pub decreases-decision_of_children : goal.decreases-decision_of_children
decreases-decision_of_children l = 5 * l.levels + 4

-- With those of what is still to come they are all.

abbrev pub invariant-deciding-loop-child : goal.invariant-deciding-loop-child
invariant-deciding-loop-child l =
    map formula_tree l.parts ++ map (λ child. child l.decision) (child_formulas l.set l.levels (drop l.child-index l.children))
    ≡ map (λ child. child l.decision) (child_formulas l.set l.levels l.children)

abbrev pub invariant-deciding_any-loop-child : goal.invariant-deciding_any-loop-child
invariant-deciding_any-loop-child l =
    map formula_tree l.parts ++ flat_map (λ child. map child l.decisions)
    (child_formulas l.set l.levels (drop l.child-index l.children))
    ≡ flat_map (λ child. map child l.decisions) (child_formulas l.set l.levels l.children)

abbrev pub invariant-decisions_of-loop-decision : goal.invariant-decisions_of-loop-decision
invariant-decisions_of-loop-decision l =
    map formula_tree l.parts ++ map (λ d. decision_tree (tree_within l.set l.levels l.place) d)
    (drop l.decision-index l.decisions)
    ≡ map (λ d. decision_tree (tree_within l.set l.levels l.place) d) l.decisions

-- the rest is what the children from a place on decide
abbrev pub invariant-first_child-loop-at : goal.invariant-first_child-loop-at
invariant-first_child-loop-at l = record {
  within : l.at ≤ length l.children;
  all : l.all.items ≡ decisions_below l.decisions;
  said : formula_tree l.rest ≡ first_child l.decisions l.decision (child_formulas l.set l.levels (drop l.at l.children));
}

abbrev pub decreases-first_child-loop-at : goal.decreases-first_child-loop-at
decreases-first_child-loop-at l = l.at

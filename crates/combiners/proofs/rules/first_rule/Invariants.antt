use Rattle.std.proofs.Common.{◌≡◌, ◌≤◌, length, drop}
use Rattle.sorted_logic.specs.Trees.{formula_tree}
use Rattle.combiners.specs.Making.{first_rule}
use Rattle.combiners.specs.Tree.{plain_rules}
use Rattle.combiners.proofs.rules.first_rule.Given as goal

-- the rest is what the rules from a place on decide
abbrev pub invariant-loop-at : goal.invariant-loop-at
invariant-loop-at l = record {
  within : l.at ≤ length l.rules;
  said : formula_tree l.rest ≡ first_rule l.decision (plain_rules (drop l.at l.rules));
}

abbrev pub decreases-loop-at : goal.decreases-loop-at
decreases-loop-at l = l.at

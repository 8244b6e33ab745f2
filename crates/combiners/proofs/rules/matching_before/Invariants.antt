use Rattle.std.proofs.Common.{◌≡◌, ◌++◌, map, drop}
use Rattle.sorted_logic.specs.Trees.{formula_tree}
use Rattle.combiners.specs.Making.{matching_before}
use Rattle.combiners.specs.Tree.{plain_rules}
use Rattle.combiners.proofs.rules.matching_before.Given as goal

-- with those of the other rules they are all
abbrev pub invariant-loop-rule : goal.invariant-loop-rule
invariant-loop-rule l =
    map formula_tree l.parts ++ matching_before l.order l.decision (plain_rules (drop l.rule-index l.rules))
    ≡ matching_before l.order l.decision (plain_rules l.rules)

use Rattle.std.proofs.Common.{◌≡◌, ◌++◌, map, drop}
use Rattle.sorted_logic.specs.Trees.{formula_tree}
use Rattle.combiners.specs.Making.{matching}
use Rattle.combiners.specs.Tree.{plain_rules}
use Rattle.combiners.proofs.rules.matching_all.Given as goal

-- with those of the other rules they are all
abbrev pub invariant-loop-rule : goal.invariant-loop-rule
invariant-loop-rule l =
    map formula_tree l.parts ++ map matching (plain_rules (drop l.rule-index l.rules)) ≡ map matching (plain_rules l.rules)

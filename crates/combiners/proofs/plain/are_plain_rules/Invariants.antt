use Rattle.std.proofs.Common.{◌≡◌, drop}
use Rattle.std.specs.List.{list_all}
use Rattle.combiners.specs.Plainness.{is_plain_rule}
use Rattle.combiners.specs.Tree.{plain_rules}
use Rattle.combiners.proofs.plain.are_plain_rules.Given as goal

-- it hangs on the rules that are left
abbrev pub invariant-loop-rule : goal.invariant-loop-rule
invariant-loop-rule l =
    list_all is_plain_rule (plain_rules (drop l.rule-index l.rules)) ≡ list_all is_plain_rule (plain_rules l.rules)

use Rattle.std.proofs.Common.{◌≡◌, ◌++◌, drop}
use Rattle.combiners.proofs.copy.copy_rules.Given as goal

-- the rules so far are copied
abbrev pub invariant-loop-rule : goal.invariant-loop-rule
invariant-loop-rule l = l.copies ++ drop l.rule-index l.rules ≡ l.rules

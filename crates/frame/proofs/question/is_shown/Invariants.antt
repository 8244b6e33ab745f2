use Rattle.std.proofs.Common.{◌≡◌, drop}
use Rattle.std.specs.List.{list_any}
use Rattle.frame.specs.Scenario.{same_test}
use Rattle.frame.proofs.question.is_shown.Given as goal

abbrev pub invariant-loop-other : goal.invariant-loop-other
invariant-loop-other l = list_any (λ other. same_test other l.test) (drop l.other-index l.shown) ≡ list_any (λ other. same_test other l.test) l.shown

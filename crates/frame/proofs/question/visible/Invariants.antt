use Rattle.std.proofs.Common.{◌≡◌, take}
use Rattle.frame.specs.Scenario.{visible}
use Rattle.frame.proofs.question.visible.Given as goal

abbrev pub invariant-loop-test : goal.invariant-loop-test
invariant-loop-test l = l.shown.items ≡ visible (take l.test-index l.tests)

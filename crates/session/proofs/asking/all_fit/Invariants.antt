use Rattle.std.proofs.Common.{◌≡◌, drop}
use Rattle.std.specs.List.{list_all}
use Rattle.list_questions.specs.Ranges.{test_fits}
use Rattle.session.proofs.asking.all_fit.Given as goal

-- those so far fit
abbrev pub invariant-loop-test : goal.invariant-loop-test
invariant-loop-test l = list_all test_fits (drop l.test-index l.tests) ≡ list_all test_fits l.tests

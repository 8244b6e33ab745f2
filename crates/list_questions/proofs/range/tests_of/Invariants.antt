use Rattle.std.proofs.Common.{◌≡◌, true, map, take, drop}
use Rattle.std.specs.List.{list_all}
use Rattle.list_questions.specs.Ranges.{test_fits, test_of}
use Rattle.list_questions.proofs.range.tests_of.Given as goal

-- the tests so far are asked, and the others fit
abbrev pub invariant-loop-test : goal.invariant-loop-test
invariant-loop-test l = record {
  asked : l.asked.items ≡ map test_of (take l.test-index l.tests);
  fit : list_all test_fits (drop l.test-index l.tests) ≡ true;
}

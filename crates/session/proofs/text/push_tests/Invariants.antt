use Rattle.std.proofs.Common.{◌≡◌, ◌++◌, drop}
use Rattle.std.specs.List.{flat_map}
use Rattle.frame.specs.Scenario.{request_of}
use Rattle.session.specs.Text.{test_line}
use Rattle.session.proofs.text.push_tests.Given as goal

-- the text so far and the lines that are left are all of it
abbrev pub invariant-loop-test : goal.invariant-loop-test
invariant-loop-test l =
    l.text.items ++ flat_map (test_line (request_of l.packet)) (drop l.test-index l.tests) ≡ l.initial.text.items ++ flat_map (test_line (request_of l.packet)) l.tests

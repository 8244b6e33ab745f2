use Rattle.std.proofs.Common.{◌≡◌, drop}
use Rattle.list_questions.specs.Shapes.{read_tests}
use Rattle.list_questions.proofs.TestShapes.{before}
use Rattle.list_questions.proofs.field_test.tests_of.Given as goal

-- with the tests of the other formulas they are the tests of all
abbrev pub invariant-loop-formula : goal.invariant-loop-formula
invariant-loop-formula l = before l.tests (read_tests (drop l.formula-index l.formulas)) ≡ read_tests l.formulas

use Rattle.std.proofs.Common.{rules, arith}
use Rattle.std.proofs.lemmas.Grind.{common_steps}
use Rattle.list_questions.proofs.QuestionShapes.{no_parts, no_atom_first, no_tests_behind, nothing_behind, asks_joined}
use Rattle.list_questions.proofs.question.asked_with_tests.Goals as goal

pub returns-in_default-clause-none : goal.returns-in_default-clause-none
returns-in_default-clause-none c = λ question. no_parts _ question (grind (arith, common_steps))

pub returns-in_default-list_atom-clause-none : goal.returns-in_default-list_atom-clause-none
returns-in_default-list_atom-clause-none c = λ question. no_atom_first _ c.in-Some.others.now c.in-Some.first.now question (search rules) (search rules)

pub returns-in_default-2-clause-none : goal.returns-in_default-2-clause-none
returns-in_default-2-clause-none c = λ question. no_tests_behind _ c.in-Some.others.now c.in-Some.first.now question (search rules) (search rules)

pub returns-then-is_empty-clause-none : goal.returns-then-is_empty-clause-none
returns-then-is_empty-clause-none c = λ question. nothing_behind _ c.in-Some.others.now c.in-Some.first.now question (search rules) (search rules)

pub returns-clause-found : goal.returns-clause-found
returns-clause-found c = asks_joined _ c.in-Some.others.now c.in-Some.first.now c.in-Some-2.tests c.in_ok-question.field-0 (search rules) (search rules) (search rules) (search rules) (search rules)

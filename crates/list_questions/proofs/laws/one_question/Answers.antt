use Rattle.list_questions.proofs.QuestionShapes as shapes
use Rattle.list_questions.proofs.laws.one_question.Goals as goal

pub returns : goal.returns
returns c = λ explore question other is was. shapes.one_question explore.formula question other is.asks was.asks

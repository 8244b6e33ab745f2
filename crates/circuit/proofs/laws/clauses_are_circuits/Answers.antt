use Rattle.circuit.proofs.Completion.{begins_least, models_of, one_completion}
use Rattle.circuit.proofs.laws.clauses_are_circuits.Goals as goal

pub returns-clause-completion : goal.returns-clause-completion
returns-clause-completion c = one_completion

pub returns-clause-models : goal.returns-clause-models
returns-clause-models c = models_of

pub returns-clause-least : goal.returns-clause-least
returns-clause-least c = begins_least

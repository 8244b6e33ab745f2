-- A question has a first request, or none that solves it.
use Rattle.std.proofs.Common.{◌≡◌, refl, sym, subst, ◌∙◌}
use Rattle.cnf.specs.Order.{LexLe}
use Rattle.sorted_logic.specs.Field.{fields}
use Rattle.ios_config.specs.Request.{Request}
use Rattle.frame.specs.Question.{Question, passes}
use Rattle.frame.specs.Scenario.{IsFirst, signature, visible}
use Rattle.frame.specs.Solution.{HasNoSolution, Solves}
use Rattle.frame.proofs.Dictionary.{LexLe-digits, digit, least_list}

-- first the least signature, then of the requests that have it the least values
pub first_or_none : (question : Question) → ((request : Request) → IsFirst question request → ⊥) → (HasNoSolution question → ⊥) → ⊥
first_or_none question no_first some = some (λ request solves.
    least_list (λ r test. digit (passes r test)) (visible question.tests) (Solves question) request solves (λ one solved least.
    least_list (λ r f. r f) fields (λ r. Solves question r × (signature question r ≡ signature question one)) one (solved, refl) (λ first is least_of_these.
    no_first first record {
      solves = is.0;
      least_signature = λ other found. subst (λ s. LexLe s (signature question other)) (sym is.1) (LexLe-digits (passes one) (passes other) (visible question.tests) (least other found));
      least_values = λ other found same. least_of_these other (found, same ∙ is.1);
    })))

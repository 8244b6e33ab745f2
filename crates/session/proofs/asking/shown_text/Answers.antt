use Rattle.std.proofs.Common.{◌≡◌, ◌∙◌}
use Rattle.std.proofs.lemmas.Result.{IfOk-weaker}
use Rattle.frame.specs.Scenario.{request_of}
use Rattle.session.specs.Text.{no_scenario}
use Rattle.session.specs.Steps.{first, none}
use Rattle.session.proofs.asking.shown_text.Goals as goal

pub returns-in-Some : goal.returns-in-Some
returns-in-Some c =
    let found = rw c.in-Some.is at c.in_ok-first.ensures.found in
    IfOk-weaker c.scenario_text.result _ _ (λ text is. rw is (first (request_of c.in-Some.packet) found)) c.scenario_text.ensures

pub returns-in-None : goal.returns-in-None
returns-in-None c =
    let no = rw c.in-None.is at c.in_ok-first.ensures.none in
    IfOk-weaker c.from_slice.result _ _ (λ text is.
    let same : text.items ≡ no_scenario = is ∙ c.as_bytes.ensures.value ∙ c.no_scenario_text.ensures in
    rw same (none no)) c.from_slice.ensures.items

use Rattle.std.proofs.lemmas.Result.{on_ok_weaker}
use Rattle.frame.proofs.Narrowing.{narrows_then}
use Rattle.frame.proofs.matching.narrow_to_message.Goals as goal

pub returns-in_ok-narrow_to_number-in-Some : goal.returns-in_ok-narrow_to_number-in-Some
returns-in_ok-narrow_to_number-in-Some c =
    rw c.in-Some.is
    (on_ok_weaker c.narrow_to_number-in-Some.result (λ second. narrows_then _ _ _ _ _ _ _ _ c.in_ok-narrow_to_number-in-Some.ensures second) c.narrow_to_number-in-Some.ensures)

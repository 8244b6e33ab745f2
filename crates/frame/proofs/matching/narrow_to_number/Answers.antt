use Rattle.frame.proofs.MatchTests.{agrees_exactly}
use Rattle.frame.proofs.Narrowing.{narrows_push}
use Rattle.frame.proofs.matching.narrow_to_number.Goals as goal

pub returns-in_ok-push-in-Some : goal.returns-in_ok-push-in-Some
returns-in_ok-push-in-Some c = narrows_push _ _ _ _ _ _ _ c.in_ok-masked-in-Some.ensures (λ packet. rw (c.from.ensures, c.in-Some.is) (agrees_exactly _ _)) c.in_ok-push-in-Some.ensures.items

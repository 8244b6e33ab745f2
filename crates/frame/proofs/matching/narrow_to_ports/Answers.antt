use Rattle.std.proofs.Common.{not, refl, ap, false}
use Rattle.frame.proofs.MatchTests.{agrees_exactly}
use Rattle.frame.proofs.Narrowing.{narrows_push}
use Rattle.frame.proofs.Nodes.{not_adds}
use Rattle.frame.proofs.matching.narrow_to_ports.Goals as goal

pub returns-in_ok-push-in-Within : goal.returns-in_ok-push-in-Within
returns-in_ok-push-in-Within c = narrows_push _ _ _ _ _ _ _ c.in_ok-within-in-Within.ensures (λ packet. rw (c.from.ensures, c.from-in-Within.ensures, c.in-Within.is) refl) c.in_ok-push-in-Within.ensures.items

pub returns-in_ok-push-in-Not : goal.returns-in_ok-push-in-Not
returns-in_ok-push-in-Not c =
    let adds = not_adds _ _ c.not.new.self _ c.in_ok-not-in-Not.field-0 _ c.in_ok-same-in-Not.ensures c.in_ok-not-in-Not.ensures.older c.in_ok-not-in-Not.ensures.node c.in_ok-not-in-Not.ensures.value in
    narrows_push _ _ _ _ _ _ _ adds (λ packet. rw (c.from-in-Not.ensures, c.in-Not.is) (ap not (agrees_exactly _ _))) c.in_ok-push-in-Not.ensures.items

pub returns-in_ok-push-in-Nothing : goal.returns-in_ok-push-in-Nothing
returns-in_ok-push-in-Nothing c =
    narrows_push _ _ _ _ c.in_ok-or-in-Nothing.field-0 (λ packet. false) _
    record { older = c.in_ok-or-in-Nothing.ensures.older; means = record { within = c.in_ok-or-in-Nothing.ensures.node; value = λ inputs packet is. c.in_ok-or-in-Nothing.ensures.value inputs } }
    (λ packet. rw c.in-Nothing.is refl) c.in_ok-push-in-Nothing.ensures.items

use Rattle.frame.proofs.MatchTests.{established_flags}
use Rattle.frame.proofs.Narrowing.{narrows_push}
use Rattle.frame.proofs.Nodes.{not_adds}
use Rattle.frame.proofs.matching.narrow_to_established.Goals as goal

pub returns : goal.returns
returns c =
    let adds = not_adds _ _ c.not.new.self _ c.in_ok-not.field-0 _ c.in_ok-neither.ensures c.in_ok-not.ensures.older c.in_ok-not.ensures.node c.in_ok-not.ensures.value in
    narrows_push _ _ _ _ _ _ _ adds (λ packet. rw c.if-not-wanted.false (established_flags packet.flags packet.flags_in_range)) c.in_ok-push.ensures.items

use Rattle.frame.proofs.SmallEnds.{lists_differ}
use Rattle.frame.proofs.comparison.asking.Goals as goal

pub by_differences-requires-clause-first : goal.by_differences-requires-clause-first
by_differences-requires-clause-first c =
    let joined = rw c.in-Some.is at c.in_ok-found.ensures.joined in
    (lists_differ _ c.args.first.now c.args.second.now _ _ _ _ _ _ _ _ _ joined.0 joined.1 c.in_ok-one.ensures.diagram c.in_ok-two.ensures.diagram (rw c.in-Some.is at c.in_ok-found.ensures.differ)).first_alone.within

pub by_differences-requires-clause-second : goal.by_differences-requires-clause-second
by_differences-requires-clause-second c =
    let joined = rw c.in-Some.is at c.in_ok-found.ensures.joined in
    (lists_differ _ c.args.first.now c.args.second.now _ _ _ _ _ _ _ _ _ joined.0 joined.1 c.in_ok-one.ensures.diagram c.in_ok-two.ensures.diagram (rw c.in-Some.is at c.in_ok-found.ensures.differ)).second_alone.within

pub returns-in-Some : goal.returns-in-Some
returns-in-Some c =
    let joined = rw c.in-Some.is at c.in_ok-found.ensures.joined in
    c.in_ok-made-in-Some.ensures c.args.first.now c.args.second.now
    (lists_differ _ c.args.first.now c.args.second.now _ _ _ _ _ _ _ _ _ joined.0 joined.1 c.in_ok-one.ensures.diagram c.in_ok-two.ensures.diagram (rw c.in-Some.is at c.in_ok-found.ensures.differ))

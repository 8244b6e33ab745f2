use Rattle.ios_lists.proofs.Found.{found_kind, no_kind}
use Rattle.ios_lists.proofs.lists.Lists.is_other_kind.Goals as goal

pub returns-in-Some : goal.returns-in-Some
returns-in-Some c =
    rw (c.is_extended.ensures, ← c.self.view_is)
    (found_kind c.self.inside.lists.items c.self.inside.index c.args.name.now c.args.extended c.in-Some.place c.index.result.now c.self.invariant (rw c.bytes.ensures at c.in-Some.ensures.place) c.index.ensures)

pub returns-in-None : goal.returns-in-None
returns-in-None c =
    rw (← c.self.view_is)
    (no_kind c.self.inside.lists.items c.self.inside.index c.args.name.now c.args.extended c.self.invariant (rw c.bytes.ensures at c.in-None.ensures.place))

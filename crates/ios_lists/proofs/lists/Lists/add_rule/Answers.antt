use Rattle.std.proofs.lemmas.Result.{on_ok_weaker, IfErr-weaker}
use Rattle.ios_acl.specs.Faults.{IsFault}
use Rattle.ios_lists.specs.Entries.{FailsAt}
use Rattle.ios_lists.specs.Lists.{list_named}
use Rattle.ios_lists.proofs.BlockEntries.{fails_found, read_found}
use Rattle.ios_lists.proofs.Found.{found, not_found}
use Rattle.ios_lists.proofs.lists.Lists.add_rule.Goals as goal

pub returns-in-Some-clause-read : goal.returns-in-Some-clause-read
returns-in-Some-clause-read c =
    let at = rw c.self.view_is at (found c.self.inside.lists.items c.self.inside.index c.args.name.now c.in-Some.place c.self.invariant (rw c.bytes.ensures at c.in-Some.ensures.place)) in
    on_ok_weaker c.take_entry.result
    (read_found c.args.self.now c.take_entry.new.self c.args.name.now c.args.extended c.in-Some.place c.args.rule.now at c.requires)
    c.take_entry.ensures.read

pub returns-in-Some-clause-refused : goal.returns-in-Some-clause-refused
returns-in-Some-clause-refused c =
    let at = rw c.self.view_is at (found c.self.inside.lists.items c.self.inside.index c.args.name.now c.in-Some.place c.self.invariant (rw c.bytes.ensures at c.in-Some.ensures.place)) in
    IfErr-weaker c.take_entry.result (FailsAt c.args.self.now c.in-Some.place c.args.rule.now) (IsFault (list_named c.args.self.now c.args.name.now c.args.extended) c.args.rule.now)
    (λ fault. fails_found c.args.self.now c.args.name.now c.args.extended c.in-Some.place c.args.rule.now fault at c.requires)
    c.take_entry.ensures.refused

pub add_first-requires : goal.add_first-requires
add_first-requires c =
    rw (← c.self.view_is) (not_found c.self.inside.lists.items c.self.inside.index c.args.name.now c.self.invariant (rw c.bytes.ensures at c.in_default.ensures.place))

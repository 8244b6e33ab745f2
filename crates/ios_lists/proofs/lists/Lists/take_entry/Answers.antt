use Rattle.std.proofs.lemmas.Result.{on_ok_weaker, IfErr-weaker}
use Rattle.ios_acl.specs.Faults.{IsFault}
use Rattle.ios_lists.specs.Entries.{FailsAt}
use Rattle.ios_lists.proofs.BlockEntries.{entry_taken, entry_fails, keeps_name, names_stay}
use Rattle.ios_lists.proofs.lists.Lists.take_entry.Goals as goal

pub invariant_of-self : goal.invariant_of-self
invariant_of-self c =
    names_stay c.self.inside.lists.items c.self.inside.index c.args.place c.index_mut.result.now c.read_line.new.self c.self.invariant c.index_mut.ensures.value (rw (← c.self.view_is) at c.requires)
    (keeps_name c.index_mut.result.now c.read_line.new.self c.args.words.now c.read_line.result c.read_line.ensures.read c.read_line.ensures.unchanged)

pub returns-clause-read : goal.returns-clause-read
returns-clause-read c =
    rw (← c.self.view_is)
    (on_ok_weaker c.read_line.result
    (entry_taken c.self.inside.lists.items c.self.inside.index c.args.place c.args.words.now c.index_mut.result.now c.read_line.new.self c.self.invariant c.index_mut.ensures.value (rw (← c.self.view_is) at c.requires))
    c.read_line.ensures.read)

pub returns-clause-refused : goal.returns-clause-refused
returns-clause-refused c =
    rw (← c.self.view_is)
    (IfErr-weaker c.read_line.result (IsFault c.index_mut.result.now c.args.words.now) (FailsAt c.self.inside.lists.items c.args.place c.args.words.now)
    (λ fault. entry_fails c.self.inside.lists.items c.self.inside.index c.args.place c.args.words.now c.index_mut.result.now fault c.self.invariant c.index_mut.ensures.value (rw (← c.self.view_is) at c.requires))
    c.read_line.ensures.refused)

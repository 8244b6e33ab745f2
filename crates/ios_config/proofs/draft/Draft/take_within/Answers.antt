use Rattle.std.proofs.lemmas.Result.{err_from_is_err_and}
use Rattle.ios_interface.proofs.NamedBlocks.{place_within}
use Rattle.ios_config.proofs.Taken.{entry_fault, entry_taken, list_within, setting_fault, setting_taken, stray}
use Rattle.ios_config.proofs.draft.Draft.take_within.Goals as goal

pub returns-in_default-clause-taken : goal.returns-in_default-clause-taken
returns-in_default-clause-taken c =
    rw (← c.self.view_is, c.in-List.is)
    (entry_taken c.self.inside.lists c.take_entry.new.self c.self.inside.interfaces c.self.inside.routes.items c.self.inside.nat c.in-List.place c.self.inside.ignored c.args.words.now c.in_default.ensures.read)

pub invariant_of-self-in-List : goal.invariant_of-self-in-List
invariant_of-self-in-List c =
    rw c.in-List.is (list_within c.take_entry.new.self c.in-List.place c.in_default.ensures.read.name c.in_default.ensures.read.stays)

pub returns-in-Err-clause-refused : goal.returns-in-Err-clause-refused
returns-in-Err-clause-refused c =
    rw (c.of_list.ensures, ← c.self.view_is, c.in-List.is)
    (entry_fault c.self.inside.lists c.self.inside.interfaces c.self.inside.routes.items c.self.inside.nat c.in-List.place c.self.inside.ignored c.args.words.now c.in-Err.fault c.in-Err.ensures.refused)

pub returns-in_ok-taken-in-Interface-clause-taken : goal.returns-in_ok-taken-in-Interface-clause-taken
returns-in_ok-taken-in-Interface-clause-taken c =
    rw (c.count.ensures, ← c.self.view_is, c.in-Interface.is)
    (setting_taken c.self.inside.lists c.self.inside.interfaces c.take_line.new.self c.self.inside.routes.items c.self.inside.nat c.in-Interface.place c.self.inside.ignored c.args.words.now
    c.in_ok-taken-in-Interface.taken c.in_ok-taken-in-Interface.ensures.read)

pub invariant_of-self-in-Interface : goal.invariant_of-self-in-Interface
invariant_of-self-in-Interface c =
    rw c.in-Interface.is
    (place_within c.take_line.new.self.blocks c.in-Interface.place c.in_ok-taken-in-Interface.ensures.read.name c.in_ok-taken-in-Interface.ensures.read.stays)

pub returns-in_err-taken-in-Interface-clause-refused : goal.returns-in_err-taken-in-Interface-clause-refused
returns-in_err-taken-in-Interface-clause-refused c =
    let p = err_from_is_err_and c.from_residual.result c.from_residual.ensures.1 in
    rw (p.1, p.2, ← c.self.view_is, c.in-Interface.is)
    (setting_fault c.self.inside.lists c.self.inside.interfaces c.self.inside.routes.items c.self.inside.nat c.in-Interface.place c.self.inside.ignored c.args.words.now c.in_err-taken-in-Interface.field-0.0
    (rw c.in-Interface.is at c.self.invariant) c.in_err-taken-in-Interface.ensures.refused)

pub returns-in-Nothing-clause-taken : goal.returns-in-Nothing-clause-taken
returns-in-Nothing-clause-taken c =
    rw (c.ignore.ensures, ← c.self.view_is, c.in-Nothing.is)
    (stray c.self.inside.lists c.self.inside.interfaces c.self.inside.routes.items c.self.inside.nat c.self.inside.ignored c.args.words.now)

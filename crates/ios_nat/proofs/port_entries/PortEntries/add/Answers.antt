use Rattle.std.proofs.Common.{◌≡◌, ◌++◌, ◌∷◌, [], rules}
use Rattle.ios_nat.specs.Sides.{global_side, local_side}
use Rattle.ios_nat.specs.Translation.{port_from, port_to}
use Rattle.ios_nat.proofs.Index.{index_push, neither, once_push, side_laws}
use Rattle.ios_nat.proofs.port_entries.PortEntries.add.Goals as goal

pub invariant_of-self-2 : goal.invariant_of-self-2
invariant_of-self-2 c =
    let old = c.self.inside.entries.items in
    let pushed : c.push.new.self.items ≡ old ++ c.args.entry ∷ [] = search rules in
    let sides = neither (port_from old c.args.entry.proto c.args.entry.local c.args.entry.local_port) (port_to old c.args.entry.proto c.args.entry.global c.args.entry.global_port) (rw (← c.self.view_is) at c.requires) in
    let local = sides.0 in
    let global = sides.1 in
    let local_is = c.local_side.ensures in
    let global_is = c.global_side.ensures in
    rw pushed (record {
      globals_found = index_push side_laws local_side (λ e. (e.global, e.global_port)) old c.args.entry c.self.inside.globals c.reserve-2.new.self c.insert.new.self c.self.invariant.globals_found c.in_ok-reserve-2.ensures.entries.2 local (rw local_is at c.in_ok-insert.ensures.updates.0);
      locals_found = index_push side_laws global_side (λ e. (e.local, e.local_port)) old c.args.entry c.self.inside.locals c.reserve-3.new.self c.insert-2.new.self c.self.invariant.locals_found c.in_ok-reserve-3.ensures.entries.2 global (rw global_is at c.in_ok-insert-2.ensures.updates.0);
      locals_once = once_push side_laws local_side (λ e. (e.global, e.global_port)) old c.args.entry c.self.invariant.locals_once local;
      globals_once = once_push side_laws global_side (λ e. (e.local, e.local_port)) old c.args.entry c.self.invariant.globals_once global;
    })

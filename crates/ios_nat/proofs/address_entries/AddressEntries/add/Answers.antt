use Rattle.std.proofs.Common.{◌≡◌, ◌++◌, ◌∷◌, [], rules}
use Rattle.std.specs.Cmp.{nat_eq_equiv}
use Rattle.ios_nat.specs.declared.entry.AddressEntry.{AddressEntry}
use Rattle.ios_nat.specs.Translation.{address_from, address_to}
use Rattle.ios_nat.proofs.Index.{index_push, neither, once_push}
use Rattle.ios_nat.proofs.address_entries.AddressEntries.add.Goals as goal

pub invariant_of-self-2 : goal.invariant_of-self-2
invariant_of-self-2 c =
    let old = c.self.inside.entries.items in
    let pushed : c.push.new.self.items ≡ old ++ c.args.entry ∷ [] = search rules in
    let sides = neither (address_from old c.args.entry.local) (address_to old c.args.entry.global) (rw (← c.self.view_is) at c.requires) in
    let local = sides.0 in
    let global = sides.1 in
    rw pushed (record {
      globals_found = index_push nat_eq_equiv (λ (e : AddressEntry). e.local) (λ e. e.global) old c.args.entry c.self.inside.globals c.reserve-2.new.self c.insert.new.self c.self.invariant.globals_found c.in_ok-reserve-2.ensures.entries.2 local c.in_ok-insert.ensures.updates.0;
      locals_found = index_push nat_eq_equiv (λ (e : AddressEntry). e.global) (λ e. e.local) old c.args.entry c.self.inside.locals c.reserve-3.new.self c.insert-2.new.self c.self.invariant.locals_found c.in_ok-reserve-3.ensures.entries.2 global c.in_ok-insert-2.ensures.updates.0;
      locals_once = once_push nat_eq_equiv (λ (e : AddressEntry). e.local) (λ e. e.global) old c.args.entry c.self.invariant.locals_once local;
      globals_once = once_push nat_eq_equiv (λ (e : AddressEntry). e.global) (λ e. e.local) old c.args.entry c.self.invariant.globals_once global;
    })

use Rattle.std.proofs.Common.{◌≡◌, ◌++◌, ◌∷◌, [], refl, rules}
use Rattle.ios_nat.specs.declared.kind.Kind.TheVariants as kinds
use Rattle.ios_nat.specs.Parts.{dynamic_entry}
use Rattle.ios_nat.specs.Reading.{Adds}
use Rattle.ios_nat.proofs.LineFaults.{dynamic_free, stop_fails}
use Rattle.ios_nat.proofs.table.NatTable.read_dynamic.Goals as goal

pub returns-in-Err-clause-refused : goal.returns-in-Err-clause-refused
returns-in-Err-clause-refused c =
    rw c.in_ok-why-in-Err.ensures
    (stop_fails c.args.self.now kinds.Dynamic c.args.rest.now c.in-Err.stop (dynamic_free c.args.self.now c.args.rest.now) c.in-Err.ensures.stop)

pub returns-clause-read : goal.returns-clause-read
returns-clause-read c =
    let items : c.push.new.self.items ≡ c.self.inside.dynamic.items ++ c.in_ok-entry.entry ∷ [] = search rules in
    let entry = c.in_ok-entry.ensures in
    rw (← c.self.view_is)
    (Adds.dynamic (dynamic_entry c.args.line c.in-Ok.words) (c.in-Ok.ensures.read c.args.line) refl (rw (items, entry) refl))

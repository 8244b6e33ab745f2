use Rattle.std.proofs.Common.{◌≡◌, ◌∙◌, sym, subst, map}
use Rattle.certificates.specs.declared.derivation.Item.TheVariants as item
use Rattle.certificates.specs.Writable.{IsWritable}
use Rattle.sat_core.proofs.Splitting.{accepted, ends_empty}
use Rattle.sat_core.proofs.split.solve_plainly.Goals as goal

pub returns-clause-answers : goal.returns-clause-answers
returns-clause-answers c =
    let told = rw c.in-Some.is at c.in_ok-split.ensures.splits in
    let items : c.of.result ≡ map item.Add c.split.new.steps.items = c.of.ensures ∙ c.in_ok-items.ensures in
    record {
      accepted = accepted c.args.cnf.now c.split.new.steps.items c.new-chosen.result.items c.in-Some.field-0 c.of.result c.new-chosen.ensures.items told.0 items;
      ends = ends_empty c.args.cnf.now c.split.new.steps.items c.new-chosen.result.items c.in-Some.field-0 c.of.result c.new-chosen.ensures.items told.0 items;
      writable = subst IsWritable (c.as_slice.ensures.value ∙ sym c.of.ensures) c.if-not-are_writable.ensures;
    }

use Rattle.std.proofs.Common.{◌≤◌, length}
use Rattle.ios_names.specs.Names.{most_names}
use Rattle.ios_interface.proofs.InterfaceNumbers.{kept_empty}
use Rattle.ios_interface.proofs.interfaces.Interfaces.new.Goals as goal

pub invariant_of-result : goal.invariant_of-result
invariant_of-result c =
    let few : length c.args.known.now ≤ most_names = rw c.len.ensures.len at c.len.ensures.few in
    rw (c.new.ensures.items, c.new-2.ensures, c.len.ensures.len) (kept_empty c.args.known.now few)

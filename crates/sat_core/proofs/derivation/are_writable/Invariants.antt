use Rattle.std.proofs.Common.{take}
use Rattle.std.specs.List.{All}
use Rattle.certificates.specs.Writable.{IsWritableItem}
use Rattle.sat_core.proofs.derivation.are_writable.Given as goal

abbrev pub invariant-loop-item : goal.invariant-loop-item
invariant-loop-item l = All IsWritableItem (take l.item-index l.items)

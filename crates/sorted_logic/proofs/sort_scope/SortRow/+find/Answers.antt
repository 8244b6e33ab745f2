use Rattle.std.proofs.Common.{arith}
use Rattle.std.proofs.lemmas.List.{length-append}
use Rattle.sorted_logic.specs.Inside.SortRows.{in_block, in_row, IsOfSize, AreOfSize}
use Rattle.sorted_logic.proofs.SortPlaces.{as_many}
use Rattle.sorted_logic.proofs.sort_scope.SortRow.+find.Goals as goal

pub returns-else-past-size : goal.returns-else-past-size
returns-else-past-size t c =
    let sized : AreOfSize c.in-More.before.now × IsOfSize c.in-More.block.now c.in-More.size =
    rw c.in-More.is at c.requires in
    rw c.in-More.is (omega (
      arith,
      c.in-Err.ensures,
      length-append (in_row c.in-More.before.now) (in_block c.in-More.block.now),
      as_many c.in-More.block.now c.in-More.size sized.1,
      c.if-past-size.false,
    ))

use Rattle.std.proofs.Common.{◌≡◌, false, replicate}
use Rattle.sorted_logic.proofs.elements.rows_of_none.Given as goal

abbrev pub invariant-loop-place : goal.invariant-loop-place
invariant-loop-place l = l.rows.items ≡ replicate l._place (replicate l.size false)

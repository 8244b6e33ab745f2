use Rattle.std.proofs.Common.{◌≡◌, [], replicate}
use Rattle.sorted_logic.proofs.elements.empty_rows.Given as goal

abbrev pub invariant-loop-place : goal.invariant-loop-place
invariant-loop-place g l = l.rows.items ≡ replicate l._place []

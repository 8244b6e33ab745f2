use Rattle.std.proofs.Common.{◌≡◌, drop, length}
use Rattle.sorted_logic.specs.Joining.{same_names, sort_names}
use Rattle.sorted_logic.proofs.clash.same_sort_names.Given as goal

-- the sorts so far have the same names
abbrev pub invariant-loop-place : goal.invariant-loop-place
invariant-loop-place l = record {
  same : same_names (sort_names l.fn.a (drop l.place l.fn.left)) (sort_names l.fn.b (drop l.place l.fn.right))
      ≡ same_names (sort_names l.fn.a l.fn.left) (sort_names l.fn.b l.fn.right);
  lengths : length l.fn.left ≡ length l.fn.right;
}

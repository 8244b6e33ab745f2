use Rattle.std.proofs.Common.{◌≡◌, ◌++◌, drop, map}
use Rattle.sorted_logic.specs.Inside.Joins.{moved_by}
use Rattle.sorted_logic.proofs.joining.all_moved.Given as goal

-- the sorts so far are moved
abbrev pub invariant-loop-sort : goal.invariant-loop-sort
invariant-loop-sort l = l.made ++ map (moved_by l.places) (drop l.sort-index l.sorts) ≡ map (moved_by l.places) l.sorts

use Rattle.std.proofs.Common.{◌≡◌, ◌++◌, drop, map}
use Rattle.sorted_logic.specs.Inside.Joins.{sort_by, new_sorts}
use Rattle.sorted_logic.proofs.joining.moved_sorts.Given as goal

-- the sorts so far are moved
abbrev pub invariant-loop-decl : goal.invariant-loop-decl
invariant-loop-decl l = l.made ++ map (sort_by l.places) (new_sorts l.fn.a (drop l.decl-index l.fn.b.sorts))
    ≡ map (sort_by l.places) (new_sorts l.fn.a l.fn.b.sorts)

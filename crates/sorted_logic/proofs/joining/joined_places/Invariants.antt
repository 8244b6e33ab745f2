use Rattle.std.proofs.Common.{◌≡◌, ◌≤◌, ◌+◌, ◌++◌, drop, length}
use Rattle.sorted_logic.specs.Inside.Joins.{places}
use Rattle.sorted_logic.proofs.joining.joined_places.Given as goal

-- the sorts so far have their places
abbrev pub invariant-loop-decl : goal.invariant-loop-decl
invariant-loop-decl l = record {
  made : l.places ++ places l.fn.a l.next (drop l.decl-index l.fn.b.sorts) ≡ places l.fn.a (length l.fn.a.sorts) l.fn.b.sorts;
  few : l.next ≤ length l.fn.a.sorts + l.decl-index;
}

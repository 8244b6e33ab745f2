use Rattle.std.proofs.Common.{◌≡◌, drop, map}
use Rattle.std.specs.List.{AllByRecursion}
use Rattle.sorted_logic.specs.Inside.Joins.{moved_by, relation_by, new_relations, with_relations}
use Rattle.sorted_logic.specs.Signature.{AreSorts}
use Rattle.sorted_logic.proofs.joining.add_relations.Given as goal

-- the relations so far are added
abbrev pub invariant-loop-decl : goal.invariant-loop-decl
invariant-loop-decl l = record {
  added : with_relations l.joined (map (relation_by l.fn.places) (new_relations l.fn.a (drop l.decl-index l.fn.b.relations)))
      ≡ with_relations l.fn.joined (map (relation_by l.fn.places) (new_relations l.fn.a l.fn.b.relations));
  sorts : l.joined.sorts ≡ l.fn.joined.sorts;
  rest : AllByRecursion (λ d. AreSorts l.fn.joined.sorts (map (moved_by l.fn.places) d.args)) (drop l.decl-index l.fn.b.relations);
}

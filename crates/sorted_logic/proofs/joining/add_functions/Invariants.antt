use Rattle.std.proofs.Common.{◌≡◌, ◌<◌, drop, length, map}
use Rattle.std.specs.List.{AllByRecursion}
use Rattle.sorted_logic.specs.Inside.Joins.{moved_by, function_by, new_functions, with_functions}
use Rattle.sorted_logic.specs.Signature.{AreSorts}
use Rattle.sorted_logic.proofs.joining.add_functions.Given as goal

-- the functions so far are added
abbrev pub invariant-loop-decl : goal.invariant-loop-decl
invariant-loop-decl l = record {
  added : with_functions l.joined (map (function_by l.fn.places) (new_functions l.fn.a (drop l.decl-index l.fn.b.functions)))
      ≡ with_functions l.fn.joined (map (function_by l.fn.places) (new_functions l.fn.a l.fn.b.functions));
  sorts : l.joined.sorts ≡ l.fn.joined.sorts;
  rest : AllByRecursion (λ d. AreSorts l.fn.joined.sorts (map (moved_by l.fn.places) d.args)
      × ((moved_by l.fn.places d.result).0 < length l.fn.joined.sorts)) (drop l.decl-index l.fn.b.functions);
}

use Rattle.std.proofs.Common.{◌≡◌, map, drop}
use Rattle.sorted_logic.specs.Sorting.{first_fault}
use Rattle.sorted_logic.specs.Trees.{conjunction, formula_tree}
use Rattle.sorted_logic.proofs.check.+formulas.Given as goal

-- the parts so far have no fault
abbrev pub invariant-check_parts-loop-f : goal.invariant-check_parts-loop-f
invariant-check_parts-loop-f l =
    first_fault l.sig l.scope (conjunction (map formula_tree (drop l.f-index l.parts)))
    ≡ first_fault l.sig l.scope (conjunction (map formula_tree l.parts))

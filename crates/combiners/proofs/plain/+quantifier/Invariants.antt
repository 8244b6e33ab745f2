use Rattle.std.proofs.Common.{◌≡◌, drop}
use Rattle.std.specs.List.{list_any}
use Rattle.sorted_logic.specs.Trees.{formula_tree}
use Rattle.combiners.specs.Plainness.{has_quantifier}
use Rattle.combiners.proofs.plain.+quantifier.Given as goal

-- it hangs on the formulas that are left
abbrev pub invariant-has_quantifier_in-loop-formula : goal.invariant-has_quantifier_in-loop-formula
invariant-has_quantifier_in-loop-formula l =
    list_any (λ formula. has_quantifier (formula_tree formula)) (drop l.formula-index l.formulas)
    ≡ list_any (λ formula. has_quantifier (formula_tree formula)) l.formulas

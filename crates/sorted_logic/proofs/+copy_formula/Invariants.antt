use Rattle.std.proofs.Common.{◌≡◌, ◌++◌, drop}
use Rattle.sorted_logic.proofs.+copy_formula.Given as goal

-- the formulas so far are copied
abbrev pub invariant-copy::copy_formulas-loop-formula : goal.invariant-copy::copy_formulas-loop-formula
invariant-copy::copy_formulas-loop-formula l = l.copies ++ drop l.formula-index l.formulas ≡ l.formulas

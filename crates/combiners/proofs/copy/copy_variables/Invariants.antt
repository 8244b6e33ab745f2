use Rattle.std.proofs.Common.{◌≡◌, ◌++◌, drop}
use Rattle.combiners.proofs.copy.copy_variables.Given as goal

-- the variables so far are copied
abbrev pub invariant-loop-variable : goal.invariant-loop-variable
invariant-loop-variable l = l.copies ++ drop l.variable-index l.variables ≡ l.variables

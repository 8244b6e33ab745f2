use Rattle.std.proofs.Common.{◌≡◌, length, drop}
use Rattle.sorted_logic.specs.Inside.Fitting.{fits_by}
use Rattle.sorted_logic.specs.Sorting.{arguments_fault}
use Rattle.sorted_logic.specs.Trees.{terms_chain}
use Rattle.sorted_logic.proofs.check_terms.+terms.Given as goal

-- the arguments so far have no fault
abbrev pub invariant-check_arguments-loop-i : goal.invariant-check_arguments-loop-i
invariant-check_arguments-loop-i l = (length l.args ≡ length l.required)
    × (arguments_fault l.sig l.scope (fits_by l.sig l.fit) (drop l.i l.required) (terms_chain (drop l.i l.args))
    ≡ arguments_fault l.sig l.scope (fits_by l.sig l.fit) l.required (terms_chain l.args))

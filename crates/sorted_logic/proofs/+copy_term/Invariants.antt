use Rattle.std.proofs.Common.{◌≡◌, ◌++◌, drop}
use Rattle.sorted_logic.proofs.+copy_term.Given as goal

-- the terms so far are copied
abbrev pub invariant-copy::copy_terms-loop-term : goal.invariant-copy::copy_terms-loop-term
invariant-copy::copy_terms-loop-term l = l.copies ++ drop l.term-index l.terms ≡ l.terms

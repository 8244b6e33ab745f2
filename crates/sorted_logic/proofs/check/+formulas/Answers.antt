use Rattle.sorted_logic.proofs.Parts.{fault_of_parts}
use Rattle.sorted_logic.proofs.check.+formulas.Goals as goal

pub check_formula-returns-in-And : goal.check_formula-returns-in-And
check_formula-returns-in-And t c = rw (
  fault_of_parts c.args.sig.now c.args.scope.now c.args.f.now c.in-And.parts c.in-And.is,
  ← c.as_slice-in-And.ensures,
) c.check_parts.ensures

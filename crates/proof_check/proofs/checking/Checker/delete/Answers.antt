use Rattle.std.proofs.Common.{length, arith}
use Rattle.proof_check.proofs.checking.Checker.delete.Goals as goal

pub invariant_of-self : goal.invariant_of-self
invariant_of-self c = record {
  blank = c.self.invariant.blank;
  in_range = c.delete_all.ensures.in_range (length c.self.inside.table) c.self.invariant.in_range;
  steps = c.self.invariant.steps;
}

pub invariant_of-self-2 : goal.invariant_of-self-2
invariant_of-self-2 c = record {
  blank = c.self.invariant.blank;
  in_range = c.delete_all.ensures.in_range (length c.self.inside.table) c.self.invariant.in_range;
  steps = omega (arith, c.self.invariant.steps);
}

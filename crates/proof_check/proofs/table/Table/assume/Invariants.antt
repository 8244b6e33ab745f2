use Rattle.std.proofs.Common.{◌≡◌, drop, length}
use Rattle.proof_check.specs.Propagation.{assumed}
use Rattle.proof_check.proofs.table.Table.assume.Given as goal

abbrev pub invariant-loop-lit : goal.invariant-loop-lit
invariant-loop-lit l = record {
  len : length l.self ≡ length l.initial.self;
  rest : assumed l.self (drop l.lit-index l.lits) ≡ assumed l.initial.self l.lits;
}

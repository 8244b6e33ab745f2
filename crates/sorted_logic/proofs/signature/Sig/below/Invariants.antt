use Rattle.std.proofs.Common.{◌≡◌, drop, length}
use Rattle.sorted_logic.specs.Signature.{below, reaches}
use Rattle.sorted_logic.proofs.signature.Sig.below.Given as goal

-- the rest of the way up meets the upper sort or not as the whole way does
abbrev pub invariant-loop-step : goal.invariant-loop-step
invariant-loop-step l = record {
  rest : reaches l.fn.self.sorts (length (drop l._step-index l.sorts)) l.sort.0 l.fn.upper.0 ≡ below l.fn.self l.fn.lower.0 l.fn.upper.0;
  sorts : l.sorts ≡ l.fn.self.sorts;
  upper : l.upper ≡ l.fn.upper;
}

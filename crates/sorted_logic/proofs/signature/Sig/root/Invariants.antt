use Rattle.std.proofs.Common.{◌≡◌, drop, length}
use Rattle.sorted_logic.specs.Signature.{root, climbed}
use Rattle.sorted_logic.proofs.signature.Sig.root.Given as goal

-- the rest of the way up leads where the whole way does
abbrev pub invariant-loop-step : goal.invariant-loop-step
invariant-loop-step l = record {
  rest : climbed l.fn.self.sorts (length (drop l._step-index l.sorts)) l.highest.0 ≡ root l.fn.self l.fn.sort.0;
  sorts : l.sorts ≡ l.fn.self.sorts;
}

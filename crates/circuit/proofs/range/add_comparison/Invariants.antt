use Rattle.std.proofs.Common.{◌≡◌, ◌-◌, ◌<◌, length, drop}
use Rattle.circuit.specs.Gates.{with_comparison}
use Rattle.circuit.specs.Sharing.{made}
use Rattle.circuit.specs.Value.{Grows}
use Rattle.circuit.proofs.range.add_comparison.Given as goal

-- the lowest bits so far are compared
abbrev pub invariant-loop-place : goal.invariant-loop-place
invariant-loop-place l = record {
  made : made l.circuit l.lower ≡ with_comparison l.fn.circuit (drop (length l.bits - l.place) l.bits) l.bound l.inclusive;
  within : l.lower < length l.circuit;
  grown : Grows l.fn.circuit l.circuit;
}

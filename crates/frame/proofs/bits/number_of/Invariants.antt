use Rattle.std.proofs.Common.{◌≡◌, take}
use Rattle.circuit.specs.Number.{number}
use Rattle.frame.proofs.bits.number_of.Given as goal

abbrev pub invariant-loop-bit : goal.invariant-loop-bit
invariant-loop-bit l = l.n ≡ number (take l.bit-index l.bits)

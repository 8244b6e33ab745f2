use Rattle.std.proofs.Common.{length}
use Rattle.std.specs.Fmt.{decimal}
use Rattle.certificates.specs.Writable.{IsWritableNumber}
use Rattle.certificates.proofs.Listed.{ReadSoFar}
use Rattle.certificates.proofs.lists.first_numbers.Given as goal

abbrev pub invariant-loop-n : goal.invariant-loop-n
invariant-loop-n l = ReadSoFar IsWritableNumber decimal l.text l.numbers.items l.rest

abbrev pub decreases-loop-n : goal.decreases-loop-n
decreases-loop-n l = length l.rest

use Rattle.std.proofs.Common.{length}
use Rattle.certificates.specs.Text.{lit_text}
use Rattle.certificates.specs.Parts.Entries.{IsWritableLit}
use Rattle.certificates.proofs.Listed.{ReadSoFar}
use Rattle.certificates.proofs.lists.lits.Given as goal

abbrev pub invariant-loop-lit : goal.invariant-loop-lit
invariant-loop-lit l = ReadSoFar IsWritableLit lit_text l.text l.lits.items l.rest

abbrev pub decreases-loop-lit : goal.decreases-loop-lit
decreases-loop-lit l = length l.rest

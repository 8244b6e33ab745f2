use Rattle.sorted_logic.proofs.Growing.{nothing_kept}
use Rattle.sorted_logic.proofs.signature.Sig.empty.Goals as goal

pub invariant_of-result : goal.invariant_of-result
invariant_of-result c = rw (c.new.ensures, c.new-2.ensures, c.new-3.ensures, c.new-4.ensures, c.new-5.ensures) nothing_kept

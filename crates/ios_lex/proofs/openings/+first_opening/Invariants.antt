use Rattle.std.proofs.Common.{length}
use Rattle.ios_lex.proofs.openings.+first_opening.Given as goal

abbrev pub decreases-first_opening : goal.decreases-first_opening
decreases-first_opening l = length l.openings.now

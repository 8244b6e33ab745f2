use Rattle.std.proofs.Common.{length}
use Rattle.ios_lex.proofs.openings.+behind.Given as goal

abbrev pub decreases-behind : goal.decreases-behind
decreases-behind l = length l.words.now

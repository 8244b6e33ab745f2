use Rattle.std.proofs.Common.{length}
use Rattle.ios_nat.proofs.statics.+options.Given as goal

abbrev pub decreases-options : goal.decreases-options
decreases-options l = length l.words.now

use Rattle.std.proofs.Common.{length}
use Rattle.ios_route.proofs.route_end.+options.Given as goal

abbrev pub decreases-options : goal.decreases-options
decreases-options l = length l.words.now

use Rattle.std.proofs.Common.{◌≡◌, take}
use Rattle.ios_route.specs.Ranks as ranks
use Rattle.ios_route.proofs.best.best_rank.Given as goal

abbrev pub invariant-loop-route : goal.invariant-loop-route
invariant-loop-route l = l.best ≡ ranks.best_rank l.address (take l.route-index l.routes)

use Rattle.std.proofs.Common.{◌≡◌, length}
use Rattle.ios_route.specs.Ranks.{choices_left}
use Rattle.ios_route.proofs.best.RouteChoicesIterator.next.Given as goal

abbrev pub invariant-loop-first : goal.invariant-loop-first
invariant-loop-first l = choices_left l.self-inside.address l.self-inside.rank l.self-inside.left.now ≡ l.fn.self

abbrev pub decreases-loop-first : goal.decreases-loop-first
decreases-loop-first l = length l.self-inside.left.now

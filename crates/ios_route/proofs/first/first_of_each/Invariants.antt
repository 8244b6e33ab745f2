use Rattle.std.proofs.Common.{◌≡◌, length, drop, take}
use Rattle.std.specs.HashMap.{get}
use Rattle.std.specs.Map.{lookup}
use Rattle.ios_route.proofs.first.first_of_each.Given as goal

abbrev pub invariant-loop-key : goal.invariant-loop-key
invariant-loop-key g l =
    ((key : g.row.K.Denot) → get g.K.PartialEq.eq l.first key ≡ lookup (g.K.PartialEq.eq key) (drop (length l.rest) l.entries))
    × (l.rest ≡ take (length l.rest) l.entries)

abbrev pub decreases-loop-key : goal.decreases-loop-key
decreases-loop-key g l = length l.rest

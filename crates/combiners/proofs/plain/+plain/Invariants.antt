use Rattle.std.proofs.Common.{◌≡◌, ◌+◌, ◌*◌, drop}
use Rattle.std.specs.List.{list_all}
use Rattle.combiners.specs.Plainness.{is_plain}
use Rattle.combiners.specs.Tree.{tree_within}
use Rattle.combiners.proofs.plain.+plain.Given as goal

-- Each level is two calls deep.

abbrev pub decreases-is_plain_within : goal.decreases-is_plain_within
decreases-is_plain_within l = 2 * l.levels

abbrev pub decreases-are_plain : goal.decreases-are_plain
decreases-are_plain l = 2 * l.levels + 1

-- it hangs on the places that are left
abbrev pub invariant-are_plain-loop-place : goal.invariant-are_plain-loop-place
invariant-are_plain-loop-place l =
    list_all (λ place. is_plain (tree_within l.set l.levels place)) (drop l.place-index l.places)
    ≡ list_all (λ place. is_plain (tree_within l.set l.levels place)) l.places

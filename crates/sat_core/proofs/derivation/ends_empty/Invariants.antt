use Rattle.std.proofs.Common.{◌≡◌, take, false}
use Rattle.std.specs.List.{list_any}
use Rattle.sat_core.specs.Solving.{adds_empty}
use Rattle.sat_core.proofs.derivation.ends_empty.Given as goal

abbrev pub invariant-loop-place : goal.invariant-loop-place
invariant-loop-place l = list_any adds_empty (take l.place l.items) ≡ false

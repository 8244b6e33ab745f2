use Rattle.std.proofs.Common.{◌≡◌, length}
use Rattle.sat_core.proofs.Forcing.{Forces}
use Rattle.sat_core.proofs.walk.least_of.Given as goal

abbrev pub invariant-loop-place : goal.invariant-loop-place
invariant-loop-place l = record {
  count : length l.table ≡ l.store.vars;
  forces : Forces l.store l.table l.floor;
}

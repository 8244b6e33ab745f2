use Rattle.std.proofs.Common.{◌≡◌, drop}
use Rattle.session.specs.Library.{list_of}
use Rattle.session.proofs.locate.place_of.Given as goal

-- the router is none of those so far
abbrev pub invariant-loop-place : goal.invariant-loop-place
invariant-loop-place l = list_of (drop l.place l.library) l.router l.list ≡ list_of l.library l.router l.list

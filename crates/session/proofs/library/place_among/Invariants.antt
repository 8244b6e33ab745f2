use Rattle.std.proofs.Common.{◌≡◌, drop}
use Rattle.std.specs.List.{filter}
use Rattle.session.specs.Library.{is_defined, list_among}
use Rattle.session.proofs.library.place_among.Given as goal

-- the list is none of those so far
abbrev pub invariant-loop-place : goal.invariant-loop-place
invariant-loop-place l = list_among (filter is_defined (drop l.place l.lists)) l.name ≡ list_among (filter is_defined l.lists) l.name

use Rattle.std.proofs.Common.{◌≡◌, drop}
use Rattle.session.specs.Library.{is_router}
use Rattle.session.proofs.library.is_router.Given as goal

-- the name is none of those so far
abbrev pub invariant-loop-loaded : goal.invariant-loop-loaded
invariant-loop-loaded l = is_router (drop l.loaded-index l.library) l.name ≡ is_router l.library l.name

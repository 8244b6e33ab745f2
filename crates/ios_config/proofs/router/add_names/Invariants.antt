use Rattle.std.proofs.Common.{◌≡◌, take}
use Rattle.ios_config.specs.Router.{names_of}
use Rattle.ios_config.proofs.router.add_names.Given as goal

-- the names of the interfaces so far
abbrev pub invariant-loop-interface : goal.invariant-loop-interface
invariant-loop-interface l = l.added.items ≡ names_of (take l.interface-index l.interfaces)

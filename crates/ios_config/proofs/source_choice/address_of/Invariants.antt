use Rattle.std.proofs.Common.{◌≡◌, drop}
use Rattle.ios_config.specs.Sources as specs
use Rattle.ios_config.proofs.source_choice.address_of.Given as goal

-- none of the interfaces so far has the name
abbrev pub invariant-loop-interface : goal.invariant-loop-interface
invariant-loop-interface l = specs.address_of (drop l.interface-index l.interfaces) l.name ≡ specs.address_of l.interfaces l.name

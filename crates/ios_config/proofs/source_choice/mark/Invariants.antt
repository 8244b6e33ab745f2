use Rattle.std.proofs.Common.{◌≡◌, drop}
use Rattle.ios_config.specs.Sources as specs
use Rattle.ios_config.proofs.source_choice.mark.Given as goal

-- none of the interfaces so far has the number
abbrev pub invariant-loop-interface : goal.invariant-loop-interface
invariant-loop-interface l = specs.mark_of (drop l.interface-index l.interfaces) l.number ≡ specs.mark_of l.interfaces l.number

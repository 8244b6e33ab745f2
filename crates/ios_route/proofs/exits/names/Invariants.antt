use Rattle.std.proofs.Common.{◌≡◌, map, take}
use Rattle.ios_route.specs.Exits.{named_outlet}
use Rattle.ios_route.proofs.exits.names.Given as goal

abbrev pub invariant-loop-interface : goal.invariant-loop-interface
invariant-loop-interface l = map (λ entry. (entry.0.now, entry.1)) l.names.items ≡ map named_outlet (take l.interface-index l.interfaces)

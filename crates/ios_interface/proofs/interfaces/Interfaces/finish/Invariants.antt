use Rattle.std.proofs.Common.{◌≡◌, map}
use Rattle.std.specs.List.{AllByRecursion}
use Rattle.ios_route.specs.ActiveRoutes.{AreLengths}
use Rattle.ios_interface.specs.Block.{interface_of}
use Rattle.ios_interface.proofs.interfaces.Interfaces.finish.Given as goal

-- the interfaces of the drafts so far
abbrev pub invariant-loop-draft : goal.invariant-loop-draft
invariant-loop-draft l = record { made : l.all.items ≡ map interface_of l.yielded; lengths : AllByRecursion AreLengths l.all.items }

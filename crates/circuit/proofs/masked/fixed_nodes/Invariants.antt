use Rattle.std.proofs.Common.{◌≡◌, ◌++◌, drop}
use Rattle.circuit.specs.Gates.{fixed_nodes}
use Rattle.circuit.proofs.masked.fixed_nodes.Given as goal

abbrev pub invariant-loop-index : goal.invariant-loop-index
invariant-loop-index l =
    l.nodes.items ++ fixed_nodes (drop l.index l.bits) l.value l.wildcard l.bit ≡ fixed_nodes l.bits l.value l.wildcard l.bit

use Rattle.std.proofs.Common.{◌≡◌, Bool, List, map, take, length}
use Rattle.circuit.specs.Value.{AreNodes, input_count, value}
use Rattle.frame.proofs.inputs.inputs.Given as goal

-- the nodes so far are the first inputs
abbrev pub invariant-loop : goal.invariant-loop
invariant-loop l = record {
  nodes : AreNodes l.circuit l.nodes.items;
  count : length l.nodes.items ≡ l.counter;
  inputs : input_count l.circuit ≡ l.counter;
  values : (inputs : List Bool) → length inputs ≡ l.count → map (value l.circuit inputs) l.nodes.items ≡ take l.counter inputs;
}

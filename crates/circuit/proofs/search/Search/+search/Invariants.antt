use Rattle.std.proofs.Common.{◌+◌, ◌*◌, ◌-◌, length}
use Rattle.circuit.specs.Value.{input_count}
use Rattle.circuit.proofs.search.Search.+search.Given as goal

abbrev pub decreases-decide : goal.decreases-decide
decreases-decide l = 3 * (input_count l.self.now.gates.now - length l.chosen.now.items) + 2

abbrev pub decreases-split : goal.decreases-split
decreases-split l = 3 * (input_count l.self.now.gates.now - length l.chosen.now.items) + 1

abbrev pub decreases-choose : goal.decreases-choose
decreases-choose l = 3 * (input_count l.self.now.gates.now - length l.chosen.now.items)

use Rattle.std.proofs.Common.{◌∙◌}
use Rattle.circuit.proofs.GateVariables.{moved_below}
use Rattle.circuit.proofs.encoding.push_gate.Goals as goal

pub push_junction-requires-clause-parts : goal.push_junction-requires-clause-parts
push_junction-requires-clause-parts c =
    rw (c.as_slice.ensures.value ∙ c.in_ok-parts-in-And.ensures, c.nodes.ensures)
    (moved_below c.args.formula.now.vars c.args.variables.now _ c.requires.variables (rw c.in-And.is at c.requires.parts))

pub push_junction-requires-in-Or-clause-parts : goal.push_junction-requires-in-Or-clause-parts
push_junction-requires-in-Or-clause-parts c =
    rw (c.as_slice-in-Or.ensures.value ∙ c.in_ok-parts-in-Or.ensures, c.nodes-in-Or.ensures)
    (moved_below c.args.formula.now.vars c.args.variables.now _ c.requires.variables (rw c.in-Or.is at c.requires.parts))

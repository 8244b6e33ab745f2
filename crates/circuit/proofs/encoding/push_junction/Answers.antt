use Rattle.std.proofs.Common.{◌<◌}
use Rattle.std.proofs.lemmas.List.Elements.{recursion_from_All}
use Rattle.circuit.proofs.encoding.push_junction.Goals as goal

pub push-requires-2 : goal.push-requires-2
push-requires-2 c = rw c.as_slice.ensures.value (recursion_from_All (λ l. l.var < c.loop-part.formula.vars) c.loop-part.last.items c.loop-part.invariant.in_range)

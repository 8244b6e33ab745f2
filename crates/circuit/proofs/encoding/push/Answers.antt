use Rattle.std.proofs.Common.{◌<◌}
use Rattle.std.proofs.lemmas.List.Elements.{All-from_recursion}
use Rattle.circuit.proofs.encoding.push.Goals as goal

pub push_in_range-requires : goal.push_in_range-requires
push_in_range-requires c = rw c.in_ok-from_lits.ensures (All-from_recursion (λ l. l.var < c.args.formula.now.vars) c.args.lits.now c.requires)

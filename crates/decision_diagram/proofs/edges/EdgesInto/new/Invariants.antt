use Rattle.std.proofs.Common.{◌≡◌, map, replicate, []}
use Rattle.decision_diagram.proofs.edges.EdgesInto.new.Given as goal

abbrev pub invariant-loop : goal.invariant-loop
invariant-loop l = map (λ edges. edges.items) l.branches.items ≡ replicate l.counter []

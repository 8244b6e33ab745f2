use Rattle.std.proofs.Common.{◌≡◌, ◌++◌, take}
use Rattle.sat_core.specs.Solving.{units}
use Rattle.sat_core.proofs.solver.add_units.Given as goal

abbrev pub invariant-loop-lit : goal.invariant-loop-lit
invariant-loop-lit l =
    l.store ≡ record { vars = l.initial.store.vars; clauses = l.initial.store.clauses ++ units (take l.lit-index l.lits) }

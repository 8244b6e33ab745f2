use Rattle.std.proofs.Common.{◌≡◌, drop}
use Rattle.std.specs.List.{list_all}
use Rattle.proof_check.specs.Values.{remaining, same_lit}
use Rattle.proof_check.proofs.table.Table.leaves_only.Given as goal

abbrev pub invariant-loop-lit : goal.invariant-loop-lit
invariant-loop-lit l =
    list_all (same_lit l.only) (remaining l.self (drop l.lit-index l.lits)) ≡ list_all (same_lit l.only) (remaining l.self l.lits)

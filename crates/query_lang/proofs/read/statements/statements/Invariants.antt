use Rattle.std.proofs.Common.{◌≤◌, ◌-◌, length, drop}
use Rattle.query_lang.proofs.Stating.{Stands}
use Rattle.query_lang.proofs.read.statements.statements.Given as goal

abbrev pub invariant-loop-place : goal.invariant-loop-place
invariant-loop-place l = record { stands : Stands l.tokens l.explored l.all (drop l.place l.tokens); within : l.place ≤ length l.tokens }

abbrev pub decreases-loop-place : goal.decreases-loop-place
decreases-loop-place l = length l.tokens - l.place

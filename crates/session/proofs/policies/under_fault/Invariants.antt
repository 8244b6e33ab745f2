use Rattle.std.proofs.Common.{◌≡◌, drop}
use Rattle.session.specs.Policies.{under_fault}
use Rattle.session.proofs.policies.under_fault.Given as goal

abbrev pub invariant-loop-name : goal.invariant-loop-name
invariant-loop-name l = under_fault (drop l.name-index l.names) ≡ under_fault l.names

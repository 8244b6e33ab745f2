use Rattle.std.proofs.Common.{◌≡◌, drop}
use Rattle.session.specs.Policies.{included_fault}
use Rattle.session.proofs.policies.included_fault.Given as goal

abbrev pub invariant-loop-atom : goal.invariant-loop-atom
invariant-loop-atom l = included_fault l.library (drop l.atom-index l.atoms) ≡ included_fault l.library l.atoms

use Rattle.std.proofs.Common.{◌≡◌, drop}
use Rattle.session.specs.Policies.{first_fault}
use Rattle.session.proofs.policies.first_fault.Given as goal

abbrev pub invariant-loop-mention : goal.invariant-loop-mention
invariant-loop-mention l = first_fault l.library (drop l.mention-index l.mentions) ≡ first_fault l.library l.mentions

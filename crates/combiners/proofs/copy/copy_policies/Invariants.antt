use Rattle.std.proofs.Common.{◌≡◌, ◌++◌, drop}
use Rattle.combiners.proofs.copy.copy_policies.Given as goal

-- the policies so far are copied
abbrev pub invariant-loop-policy : goal.invariant-loop-policy
invariant-loop-policy l = l.copies ++ drop l.policy-index l.policies ≡ l.policies

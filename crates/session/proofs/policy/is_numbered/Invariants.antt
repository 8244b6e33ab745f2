use Rattle.std.proofs.Common.{◌≡◌, drop}
use Rattle.session.specs.Policies.{entry_names, is_among}
use Rattle.session.proofs.policy.is_numbered.Given as goal

abbrev pub invariant-loop-entry : goal.invariant-loop-entry
invariant-loop-entry l = is_among (entry_names (drop l.entry-index l.entries)) l.rule ≡ is_among (entry_names l.entries) l.rule

use Rattle.session.proofs.RulePaths.{path_rule}
use Rattle.session.proofs.policies.path_rule_fault.Goals as goal

pub returns-in-len1-up : goal.returns-in-len1-up
returns-in-len1-up c =
    let split = path_rule c.args.library.now c.args.path.now c.rule-item.result c.in-len1-up.len_at_least c.rule-item.is in
    rw split (rw c.policy_at.ensures at c.rule_fault.ensures)

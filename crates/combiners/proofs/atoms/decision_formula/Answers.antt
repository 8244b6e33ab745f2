use Rattle.sorted_logic.specs.Syntax.{decides}
use Rattle.combiners.specs.Combining.{policies_of}
use Rattle.combiners.specs.Making.{decision_tree}
use Rattle.combiners.specs.Tree.{tree_of}
use Rattle.combiners.proofs.Meanings.{meant}
use Rattle.combiners.proofs.PolicyFormulas.{decision_right}
use Rattle.combiners.proofs.atoms.decision_formula.Goals as goal

pub returns-clause-meaning : goal.returns-clause-meaning
returns-clause-meaning c = meant c.decision_within.result (decision_tree (tree_of c.args.p.now c.args.policy) c.args.decision)
    (λ u. policies_of u c.args.p.now (decides c.args.policy c.args.decision)) (rw c.len.ensures at c.decision_within.ensures)
    (λ u value elements. decision_right u c.args.p.now c.args.policy c.args.decision value elements)

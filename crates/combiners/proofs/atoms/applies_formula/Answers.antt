use Rattle.sorted_logic.specs.Syntax.{applies}
use Rattle.combiners.specs.Combining.{policies_of}
use Rattle.combiners.specs.Making.{applies_tree}
use Rattle.combiners.specs.Tree.{tree_of}
use Rattle.combiners.proofs.Meanings.{meant}
use Rattle.combiners.proofs.PolicyFormulas.{applies_right}
use Rattle.combiners.proofs.atoms.applies_formula.Goals as goal

pub returns-clause-meaning : goal.returns-clause-meaning
returns-clause-meaning c = meant c.applies_at.result (applies_tree (tree_of c.args.p.now c.args.policy) c.args.rule)
    (λ u. policies_of u c.args.p.now (applies c.args.policy c.args.rule)) c.applies_at.ensures
    (λ u value elements. applies_right u c.args.p.now c.args.policy c.args.rule value elements)

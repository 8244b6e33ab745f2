use Rattle.sorted_logic.specs.Syntax.{matches}
use Rattle.combiners.specs.Combining.{policies_of}
use Rattle.combiners.specs.Making.{matches_tree}
use Rattle.combiners.specs.Tree.{tree_of}
use Rattle.combiners.proofs.Meanings.{meant}
use Rattle.combiners.proofs.PolicyFormulas.{matches_right}
use Rattle.combiners.proofs.atoms.matches_formula.Goals as goal

pub returns-clause-meaning : goal.returns-clause-meaning
returns-clause-meaning c = meant c.matches_at.result (matches_tree (tree_of c.args.p.now c.args.policy) c.args.rule)
    (λ u. policies_of u c.args.p.now (matches c.args.policy c.args.rule)) c.matches_at.ensures
    (λ u value elements. matches_right u c.args.p.now c.args.policy c.args.rule value elements)

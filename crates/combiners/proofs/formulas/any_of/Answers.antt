use Rattle.std.proofs.Common.{◌≡◌, List, [], ◌∷◌, map, refl}
use Rattle.sorted_logic.specs.declared.formula.Formula.{Formula}
use Rattle.sorted_logic.specs.declared.formula.Formula.TheVariants as formula
use Rattle.sorted_logic.specs.Trees.{formula_tree}
use Rattle.sorted_logic.proofs.TreeEquations.{tree_of_or}
use Rattle.combiners.specs.Making.{any_of}
use Rattle.combiners.proofs.formulas.any_of.Goals as goal

or_of_some : (parts : List Formula) → (parts ≡ [] → ⊥) → formula_tree (formula.Or parts) ≡ any_of (map formula_tree parts)
or_of_some [] h = absurd (h refl)
or_of_some (f ∷ parts) h = tree_of_or (f ∷ parts)

pub returns-else-is_empty : goal.returns-else-is_empty
returns-else-is_empty c = or_of_some c.args.parts (λ e. let t = c.is_empty.ensures.1 e in cc)

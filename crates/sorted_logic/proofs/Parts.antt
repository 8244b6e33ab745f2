-- The first fault of a list of formulas is the same whatever joins them.
use Rattle.std.specs.Prelude.{◌≡◌, List, [], ◌∷◌, ◌⊎◌, map, refl}
use Rattle.std.specs.Option.{option_or}
use Rattle.std.proofs.Common.{ap, inl, inr}
use Rattle.sorted_logic.specs.declared.formula.Formula.{Formula}
use Rattle.sorted_logic.specs.declared.formula.Formula.TheVariants as formula
use Rattle.sorted_logic.specs.declared.term.Sort.{Sort}
use Rattle.sorted_logic.specs.Signature.{Signature}
use Rattle.sorted_logic.specs.Sorting.{first_fault}
use Rattle.sorted_logic.specs.Syntax.{FormulaTree}
use Rattle.sorted_logic.specs.Trees.{conjunction, disjunction, equivalence, formula_tree}
use Rattle.sorted_logic.proofs.TreeEquations.{tree_of_and, tree_of_or, tree_of_iff}

module _ (sig : Signature) (vars : List Sort) where
  of_disjunction : (parts : List FormulaTree)
      → first_fault sig vars (disjunction parts) ≡ first_fault sig vars (conjunction parts)
  of_disjunction [] = refl
  of_disjunction (f ∷ parts) = ap (option_or (first_fault sig vars f)) (of_disjunction parts)

  of_equivalence : (parts : List FormulaTree)
      → first_fault sig vars (equivalence parts) ≡ first_fault sig vars (conjunction parts)
  of_equivalence [] = refl
  of_equivalence (f ∷ parts) = ap (option_or (first_fault sig vars f)) (of_equivalence parts)

  pub fault_of_parts : (f : Formula) (parts : List Formula)
      → (f ≡ formula.And parts) ⊎ ((f ≡ formula.Or parts) ⊎ (f ≡ formula.Iff parts))
      → first_fault sig vars (formula_tree f) ≡ first_fault sig vars (conjunction (map formula_tree parts))
  fault_of_parts f parts (inl h) = rw (h, tree_of_and) refl
  fault_of_parts f parts (inr (inl h)) = rw (h, tree_of_or) (of_disjunction (map formula_tree parts))
  fault_of_parts f parts (inr (inr h)) = rw (h, tree_of_iff) (of_equivalence (map formula_tree parts))

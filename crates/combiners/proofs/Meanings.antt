-- A formula that is made means what its tree means.
use Rattle.std.proofs.Common.{◌≡◌, ◌↔◌, ℕ, Bool, List, Result, Ok, Err, IfOk, sym, subst}
use Rattle.sorted_logic.specs.declared.formula.Formula.{Formula}
use Rattle.sorted_logic.specs.Syntax.{FormulaTree}
use Rattle.sorted_logic.specs.Trees.{formula_tree}
use Rattle.sorted_logic.specs.Truth.{no_policies, HasTruthValue}
use Rattle.sorted_logic.specs.Universe.{Universe}

pub meant : {E : Type 0} (made : Result Formula E) (tree : FormulaTree) (Says : Universe → Bool → List ℕ → Type 0)
    → IfOk made (λ f. formula_tree f ≡ tree)
    → ((u : Universe) (value : Bool) (elements : List ℕ) → HasTruthValue u no_policies tree value elements
    ↔ Says u value elements)
    → IfOk made (λ f. (u : Universe) (value : Bool) (elements : List ℕ)
    → HasTruthValue u no_policies (formula_tree f) value elements ↔ Says u value elements)
meant (Ok f) tree Says h right = λ u value elements.
    subst (λ t. HasTruthValue u no_policies t value elements ↔ Says u value elements) (sym h) (right u value elements)
meant (Err e) tree Says h right = h

-- A list of formulas has a quantifier where one of them has.
use Rattle.std.proofs.Common.{◌≡◌, List, [], ◌∷◌, ◌||◌, map, refl, ap}
use Rattle.std.specs.List.{list_any}
use Rattle.sorted_logic.specs.declared.formula.Formula.{Formula}
use Rattle.sorted_logic.specs.Trees.{conjunction, disjunction, equivalence, formula_tree}
use Rattle.combiners.specs.Plainness.{has_quantifier}

pub in_conjunction : (fs : List Formula)
    → has_quantifier (conjunction (map formula_tree fs)) ≡ list_any (λ f. has_quantifier (formula_tree f)) fs
in_conjunction [] = refl
in_conjunction (f ∷ fs) = ap (λ b. has_quantifier (formula_tree f) || b) (in_conjunction fs)

pub in_disjunction : (fs : List Formula)
    → has_quantifier (disjunction (map formula_tree fs)) ≡ list_any (λ f. has_quantifier (formula_tree f)) fs
in_disjunction [] = refl
in_disjunction (f ∷ fs) = ap (λ b. has_quantifier (formula_tree f) || b) (in_disjunction fs)

pub in_equivalence : (fs : List Formula)
    → has_quantifier (equivalence (map formula_tree fs)) ≡ list_any (λ f. has_quantifier (formula_tree f)) fs
in_equivalence [] = refl
in_equivalence (f ∷ fs) = ap (λ b. has_quantifier (formula_tree f) || b) (in_equivalence fs)

pub ruleset chains = (in_conjunction, in_disjunction, in_equivalence)

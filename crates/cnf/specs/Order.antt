-- The order of values for the variables, and the least ones with which clauses hold.
use Rattle.std.specs.Prelude.{Bool, true, false, ℕ, List, [], ◌∷◌}
use Rattle.cnf.specs.declared.lit.Lit.{Lit}
use Rattle.cnf.specs.Clauses.{IsModel}

-- dictionary order on assignments, false before true: the first one comes before the second or is equal to it
abbrev pub LexLe : List Bool → List Bool → Type 0
LexLe [] ys = Unit {0}
LexLe (x ∷ xs) [] = ⊥
LexLe (false ∷ xs) (true ∷ ys) = Unit {0}
LexLe (true ∷ xs) (false ∷ ys) = ⊥
LexLe (false ∷ xs) (false ∷ ys) = LexLe xs ys
LexLe (true ∷ xs) (true ∷ ys) = LexLe xs ys

-- the model that comes before all others
pub record IsLeast (vars : ℕ) (clauses : List (List Lit)) (values : List Bool) : Type 0 where
  pub model : IsModel vars clauses values
  pub least : (other : List Bool) → IsModel vars clauses other → LexLe values other

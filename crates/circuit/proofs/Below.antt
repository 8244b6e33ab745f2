-- Lists of places that all lie below a bound.
use Rattle.std.proofs.Common.{ℕ, ◌<◌, ◌≤◌, List, [], ◌∷◌, ◌++◌, arith}
use Rattle.std.specs.List.{AllByRecursion}

pub below-weaker : (m n : ℕ) (nodes : List ℕ) → m ≤ n → AllByRecursion (λ k. k < m) nodes → AllByRecursion (λ k. k < n) nodes
below-weaker m n [] h a = tt
below-weaker m n (node ∷ nodes) h a = (omega (arith, a.0), below-weaker m n nodes h a.1)

pub below_push : (n : ℕ) (nodes : List ℕ) (node : ℕ) → node < n → AllByRecursion (λ k. k < n) nodes → AllByRecursion (λ k. k < n) (nodes ++ node ∷ [])
below_push n [] node h a = (h, tt)
below_push n (first ∷ nodes) node h a = (a.0, below_push n nodes node h a.1)

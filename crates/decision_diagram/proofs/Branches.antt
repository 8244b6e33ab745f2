-- The branches of a table behind its two leaves.
use Rattle.std.proofs.Common.{◌≡◌, ℕ, ◌+◌, ◌<◌, ◌≤◌, suc, Bool, true, false, List, [], ◌∷◌, length, drop, Some, refl, sym, ap, subst, ◌∙◌, arith}
use Rattle.std.specs.List.{slice_get}
use Rattle.decision_diagram.specs.declared.node.Node.{Node}
use Rattle.decision_diagram.specs.declared.node.Node.TheVariants as node
use Rattle.decision_diagram.specs.Tree.{Tree, leaf, branch, IsReduced}
use Rattle.decision_diagram.specs.Table.{table_of, tree_at, trees, diagram, IsTable}

-- a branch at this place, of a table with these trees over so many bits
pub record IsBranch (ts : List Tree) (count place bit low high : ℕ) : Type 0 where
  pub bit_within : bit < count
  pub low_before : low < place
  pub high_before : high < place
  pub apart : low ≡ high → ⊥
  pub tree : tree_at ts place ≡ branch bit (tree_at ts low) (tree_at ts high)

abbrev pub IsBranchNode : List Tree → ℕ → ℕ → Node → Type 0
IsBranchNode ts count place (node.Leaf constant) = ⊥
IsBranchNode ts count place (node.Branch bit low high) = IsBranch ts count place bit low high

-- all of these nodes, the first of which stands at this place
abbrev pub AreBranches : List Tree → ℕ → ℕ → List Node → Type 0
AreBranches ts count place [] = Unit {0}
AreBranches ts count place (n ∷ nodes) = IsBranchNode ts count place n × AreBranches ts count (place + 1) nodes

no_leaf : (count : ℕ) (nodes : List Node) (place : ℕ) (constant : Bool) → IsTable (table_of count nodes) → 2 ≤ place → place < length nodes → diagram (table_of count nodes) place ≡ leaf constant → ⊥
no_leaf count nodes place true table behind within is =
    omega (arith, behind, table.different place 1 within (omega (arith, table.leaves)) (is ∙ sym table.always))
no_leaf count nodes place false table behind within is =
    omega (arith, behind, table.different place 0 within (omega (arith, table.leaves)) (is ∙ sym table.never))

pub branch_at : (count most : ℕ) (nodes : List Node) (place : ℕ) (n : Node) → IsTable (table_of count nodes) → count ≤ most → 2 ≤ place → place < length nodes → slice_get nodes place ≡ Some n → IsBranchNode (trees nodes) most place n
branch_at count most nodes place (node.Leaf constant) table few behind within is = no_leaf count nodes place constant table behind within (table.built place (node.Leaf constant) is)
branch_at count most nodes place (node.Branch bit low high) table few behind within is =
    let ends = table.ends place (node.Branch bit low high) is in
    let built = table.built place (node.Branch bit low high) is in
    let reduced = subst (IsReduced 0 count) built (table.reduced place within) in
    record {
      bit_within = omega (arith, reduced.1, few);
      low_before = ends.0;
      high_before = ends.1;
      apart = λ same. reduced.2 (ap (tree_at (trees nodes)) same);
      tree = built;
    }

each_branch : (ts : List Tree) (count place : ℕ) (nodes : List Node) → ((k : ℕ) (n : Node) → k < length nodes → slice_get nodes k ≡ Some n → IsBranchNode ts count (place + k) n) → AreBranches ts count place nodes
each_branch ts count place [] each = tt
each_branch ts count place (n ∷ nodes) each =
    let first : place + 0 ≡ place = omega arith in (
      subst (λ p. IsBranchNode ts count p n) first (each 0 n (omega arith) refl),
      each_branch ts count (place + 1) nodes (λ k m within is. (let next : place + suc k ≡ place + 1 + k = omega arith in subst (λ p. IsBranchNode ts count p m) next (each (suc k) m (omega (arith, within)) is))),
    )

pub branches : (count most : ℕ) (nodes : List Node) → IsTable (table_of count nodes) → count ≤ most → AreBranches (trees nodes) most 2 (drop 2 nodes)
branches count most [] table few = tt
branches count most (a ∷ []) table few = tt
branches count most (a ∷ b ∷ nodes) table few =
    each_branch (trees (a ∷ b ∷ nodes)) most 2 nodes (λ k n within is.
    let behind : suc (suc k) ≡ 2 + k = omega arith in
    subst (λ p. IsBranchNode (trees (a ∷ b ∷ nodes)) most p n) behind (branch_at count most (a ∷ b ∷ nodes) (suc (suc k)) n table few (omega arith) (omega (arith, within)) is))

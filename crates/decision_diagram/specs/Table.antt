-- Tables of nodes, and the diagrams that stand in them.
use Rattle.std.specs.Prelude.{◌≡◌, ℕ, ◌<◌, ◌≤◌, Bool, true, false, List, [], ◌∷◌, ◌++◌, length, fold, slice_index_or, slice_get, Some, ◌⊎◌, if◌then◌else◌}
use Rattle.decision_diagram.specs.declared.node.Node.{Node}
use Rattle.decision_diagram.specs.declared.node.Node.TheVariants as node
use Rattle.decision_diagram.specs.Tree.{Tree, leaf, branch, IsReduced}
use Rattle.decision_diagram.specs.Tree as tree

-- nodes over so many bits; a diagram is the place of its first node
pub record Table : Type 0 where
  pub bits : ℕ
  pub nodes : List Node

abbrev pub table_of : ℕ → List Node → Table
table_of bits nodes = record { bits = bits; nodes = nodes }

abbrev pub two_leaves : List Node
two_leaves = node.Leaf false ∷ node.Leaf true ∷ []

-- the tree at a place, and a leaf past the end
abbrev pub tree_at : List Tree → ℕ → Tree
tree_at trees place = slice_index_or trees place (leaf false)

-- the tree of a node, given those of the nodes before it
abbrev pub node_tree : List Tree → Node → Tree
node_tree trees (node.Leaf constant) = leaf constant
node_tree trees (node.Branch bit low high) = branch bit (tree_at trees low) (tree_at trees high)

abbrev pub with_node : List Tree → Node → List Tree
with_node trees n = trees ++ node_tree trees n ∷ []

-- the trees of all nodes, in order
unfoldable pub trees : List Node → List Tree
trees nodes = fold with_node [] nodes

-- the tree of a diagram, and its value for these bits
abbrev pub diagram : Table → ℕ → Tree
diagram table d = tree_at (trees table.nodes) d

abbrev pub value_in : Table → ℕ → List Bool → Bool
value_in table d bits = tree.value (diagram table d) bits

abbrev pub IsOf : Table → ℕ → Type 0
IsOf table d = d < length table.nodes

-- the diagram is ordered and reduced, and looks at no bit before this one
abbrev pub LooksFrom : Table → ℕ → ℕ → Type 0
LooksFrom table first d = IsReduced first table.bits (diagram table d)

-- the ends of a node stand before this place
abbrev pub AreEndsBefore : ℕ → Node → Type 0
AreEndsBefore place (node.Leaf constant) = Unit {0}
AreEndsBefore place (node.Branch bit low high) = (low < place) × (high < place)

-- the two leaves first, then branches behind their ends; each diagram is ordered and reduced, and no two are equal
pub record IsTable (table : Table) : Type 0 where
  pub leaves : 2 ≤ length table.nodes
  pub never : diagram table 0 ≡ leaf false
  pub always : diagram table 1 ≡ leaf true
  pub ends : (place : ℕ) (n : Node) → slice_get table.nodes place ≡ Some n → AreEndsBefore place n
  pub built : (place : ℕ) (n : Node) → slice_get table.nodes place ≡ Some n
      → diagram table place ≡ node_tree (trees table.nodes) n
  pub reduced : (d : ℕ) → IsOf table d → LooksFrom table 0 d
  pub different : (a b : ℕ) → IsOf table a → IsOf table b → diagram table a ≡ diagram table b → a ≡ b

-- the new table has the diagrams of the old one, each at its place
pub record Extends (old new : Table) : Type 0 where
  pub bits : new.bits ≡ old.bits
  pub longer : length old.nodes ≤ length new.nodes
  pub older : (d : ℕ) → IsOf old d → diagram new d ≡ diagram old d

-- a diagram of the table that has this value for all bits
pub record HasValue (table : Table) (formula : List Bool → Bool) (d : ℕ) : Type 0 where
  pub within : IsOf table d
  pub value : (bits : List Bool) → value_in table d bits ≡ formula bits

-- the value of one diagram where a condition is true, and of another where it is false
abbrev pub choice : Table → ℕ → ℕ → ℕ → List Bool → Bool
choice table condition one other bits = if value_in table condition bits then value_in table one bits else value_in table other bits

-- looks at no bit before those that these diagrams look at
abbrev pub LooksFromThree : Table → Table → ℕ → ℕ → ℕ → ℕ → Type 0
LooksFromThree old new a b c d = (first : ℕ) → LooksFrom old first a → LooksFrom old first b → LooksFrom old first c → LooksFrom new first d

-- a node is found at its place, or stands behind all others of the table that is left
abbrev pub IsFoundOrAdded : Table → Table → Node → ℕ → Type 0
IsFoundOrAdded old new n d =
    ((new ≡ old) × (slice_get old.nodes d ≡ Some n)) ⊎ ((new.nodes ≡ old.nodes ++ n ∷ []) × (d ≡ length old.nodes))

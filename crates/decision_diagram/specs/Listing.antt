-- The nodes of a diagram in a stated order: the two leaves, and then each branch once, behind what follows where its bit is
-- false and where it is true. They are a function of the tree alone, and so of the diagram's values.
use Rattle.std.specs.Prelude.{ℕ, ◌==◌, ◌&&◌, Bool, true, false, List, [], ◌∷◌, ◌++◌, length, map, if◌then◌else◌}
use Rattle.std.specs.Bool.{beq}
use Rattle.std.specs.List.{list_any, position_or_len}
use Rattle.decision_diagram.specs.declared.node.Node.{Node}
use Rattle.decision_diagram.specs.declared.node.Node.TheVariants as node
use Rattle.decision_diagram.specs.Tree.{Tree, leaf, branch}

abbrev pub same_tree : Tree → Tree → Bool
same_tree (leaf a) (leaf b) = beq a b
same_tree (leaf a) (branch bit low high) = false
same_tree (branch bit low high) (leaf b) = false
same_tree (branch bit low high) (branch other a b) = (bit == other) && (same_tree low a && same_tree high b)

-- these trees, and behind them the parts of one more that are not among them
abbrev pub with_parts : List Tree → Tree → List Tree
with_parts trees (leaf constant) = if list_any (same_tree (leaf constant)) trees then trees else trees ++ leaf constant ∷ []
with_parts trees (branch bit low high) =
    if list_any (same_tree (branch bit low high)) trees
    then trees
    else with_parts (with_parts trees low) high ++ branch bit low high ∷ []

-- the parts of a tree, itself the last one where it is a branch
abbrev pub parts : Tree → List Tree
parts t = with_parts (leaf false ∷ leaf true ∷ []) t

-- how many nodes its diagram has, the two leaves among them
abbrev pub size : Tree → ℕ
size t = length (parts t)

abbrev pub place_in : List Tree → Tree → ℕ
place_in trees t = position_or_len (same_tree t) trees

abbrev pub node_over : List Tree → Tree → Node
node_over trees (leaf constant) = node.Leaf constant
node_over trees (branch bit low high) = node.Branch bit (place_in trees low) (place_in trees high)

-- the nodes, and the place of the tree among them
abbrev pub listing : Tree → List Node
listing t = map (node_over (parts t)) (parts t)

abbrev pub root_of : Tree → ℕ
root_of t = place_in (parts t) t

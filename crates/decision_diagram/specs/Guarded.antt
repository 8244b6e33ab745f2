-- Guarded gates of a diagram. From the root down, a gate that says where a node is reached, and one for each of its two edges,
-- that says where it is taken; from the leaves up, a gate that says where a node is reached and the diagram's value is true.
-- Where nothing is reached, all gates below are false, whatever the bits say.
use Rattle.std.specs.Prelude.{ℕ, ◌+◌, ◌-◌, ◌==◌, nat_lt, List, [], ◌∷◌, ◌++◌, length, replicate, drop, slice_index_or, slice_set, if◌then◌else◌}
use Rattle.circuit.specs.declared.gate.Gate.{Gate}
use Rattle.circuit.specs.declared.gate.Gate.TheVariants as gate
use Rattle.circuit.specs.Sharing.{Made, made, found_or_added}
use Rattle.decision_diagram.specs.declared.node.Node.{Node}
use Rattle.decision_diagram.specs.declared.node.Node.TheVariants as node
use Rattle.decision_diagram.specs.Tree.{Tree}
use Rattle.decision_diagram.specs.Listing.{listing, root_of}

-- the edges into each branch, the branches counted from the first one behind the two leaves
abbrev pub edges_into : List (List ℕ) → ℕ → List ℕ
edges_into into place = slice_index_or into (place - 2) []

-- one edge more into the node at this place; those into leaves are not kept
abbrev pub with_edge : List (List ℕ) → ℕ → ℕ → List (List ℕ)
with_edge into place edge =
    if nat_lt place 2 then into else slice_set into (place - 2) (edges_into into place ++ edge ∷ [])

-- where one of these edges is taken
abbrev pub joined : List Gate → List ℕ → Made
joined gates [] = found_or_added gates (gate.Or [])
joined gates (edge ∷ []) = made gates edge
joined gates (edge ∷ other ∷ edges) = found_or_added gates (gate.Or (edge ∷ other ∷ edges))

-- the way down so far: the gates, the edges into each branch, and of each branch that is done its edge where the bit is false
-- and its edge where it is true
pub record Descent : Type 0 where
  pub gates : List Gate
  pub into : List (List ℕ)
  pub edges : List (ℕ × ℕ)

abbrev pub descent : List Gate → List (List ℕ) → List (ℕ × ℕ) → Descent
descent gates into edges = record { gates = gates; into = into; edges = edges }

-- a branch further down; an edge into a leaf keeps its gate, also where the leaf is that of false
abbrev pub descend_at : List ℕ → ℕ → Descent → Node → Descent
descend_at bits place so_far (node.Leaf constant) = so_far
descend_at bits place so_far (node.Branch bit low high) =
    let bit_node = slice_index_or bits bit 0 in
    let reached = joined so_far.gates (edges_into so_far.into place) in
    let off = found_or_added reached.gates (gate.Not bit_node) in
    let if_false = found_or_added off.gates (gate.And (reached.node ∷ off.node ∷ [])) in
    let if_true = found_or_added if_false.gates (gate.And (reached.node ∷ bit_node ∷ [])) in
    let into = with_edge (with_edge so_far.into low if_false.node) high if_true.node in
    descent if_true.gates into ((if_false.node, if_true.node) ∷ so_far.edges)

-- down over these nodes, the last one first; the first of them stands at this place
abbrev pub descend : List ℕ → ℕ → Descent → List Node → Descent
descend bits place start [] = start
descend bits place start (n ∷ nodes) = descend_at bits place (descend bits (place + 1) start nodes) n

-- the way up so far: the gates, and of each branch that is done where it is reached and the value is true
pub record Ascent : Type 0 where
  pub gates : List Gate
  pub accepted : List ℕ

abbrev pub ascent : List Gate → List ℕ → Ascent
ascent gates accepted = record { gates = gates; accepted = accepted }

-- where an edge is taken and the value is true: an edge into a branch, together with what the branch accepts; an edge into the
-- leaf of true gives back itself; one into the leaf of false is not asked, `ascend_at` leaves it out. The edge stays beside what
-- its end accepts even where no other edge ends there: the branch alone would say the same, but a search that finds it true
-- would then take the edge, and with it the bit.
abbrev pub returned : Ascent → ℕ → ℕ → Made
returned so_far edge place =
    if nat_lt place 2 then made so_far.gates edge
    else found_or_added so_far.gates (gate.And (edge ∷ slice_index_or so_far.accepted (place - 2) 0 ∷ []))

-- a branch further up: what comes back by its two edges, or by the one that does not end in the leaf of false
abbrev pub ascend_at : Ascent → Node → ℕ × ℕ → Ascent
ascend_at so_far (node.Leaf constant) edges = so_far
ascend_at so_far (node.Branch bit low high) edges =
    let by_low = returned so_far edges.0 low in
    let by_high = returned (ascent by_low.gates so_far.accepted) edges.1 high in
    if low == 0 then ascent by_high.gates (so_far.accepted ++ by_high.node ∷ [])
    else if high == 0 then ascent by_high.gates (so_far.accepted ++ by_low.node ∷ [])
    else
    let either = found_or_added by_high.gates (gate.Or (by_low.node ∷ by_high.node ∷ [])) in
    ascent either.gates (so_far.accepted ++ either.node ∷ [])

-- up over these nodes with their edges, the first one first
abbrev pub ascend : Ascent → List Node → List (ℕ × ℕ) → Ascent
ascend so_far [] edges = so_far
ascend so_far (n ∷ nodes) [] = so_far
ascend so_far (n ∷ nodes) (e ∷ edges) = ascend (ascend_at so_far n e) nodes edges

-- the gates of the nodes of a listing whose root is this one, over these nodes for the bits; the edge into the root is the
-- constant true
abbrev pub guarded_nodes : List Gate → List ℕ → List Node → ℕ → Made
guarded_nodes gates bits nodes root =
    if root == 0 then found_or_added gates (gate.Or [])
    else
    let start = found_or_added gates (gate.And []) in
    if root == 1 then start
    else
    let into = with_edge (replicate (length nodes - 2) []) root start.node in
    let down = descend bits 2 (descent start.gates into []) (drop 2 nodes) in
    let up = ascend (ascent down.gates []) (drop 2 nodes) down.edges in
    made up.gates (slice_index_or up.accepted (root - 2) 0)

-- those of a diagram
unfoldable pub guarded : List Gate → List ℕ → Tree → Made
guarded gates bits t = guarded_nodes gates bits (listing t) (root_of t)

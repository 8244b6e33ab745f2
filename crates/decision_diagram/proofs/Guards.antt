-- The guarded gates of a table's nodes have the value of the root's diagram.
use Rattle.std.proofs.Common.{◌≡◌, ℕ, ◌+◌, ◌-◌, ◌<◌, ◌≤◌, ◌==◌, zero, suc, Bool, true, false, ◌&&◌, List, [], map, length, get_or, drop, replicate, length-drop, if◌then◌else◌, refl, sym, ap, ap₂, subst, ◌∙◌, arith}
use Rattle.std.proofs.lemmas.Bool.Decides.{nat_tests}
use Rattle.std.proofs.lemmas.List.{length-replicate}
use Rattle.circuit.specs.declared.gate.Gate.{Gate}
use Rattle.circuit.specs.declared.gate.Gate.TheVariants as gate
use Rattle.circuit.specs.Value.{value as node_value, AreNodes, IsCircuit}
use Rattle.circuit.specs.Sharing.{Made, made, found_or_added}
use Rattle.circuit.proofs.Copies.{below_at}
use Rattle.circuit.proofs.Extend.{Grows-refl, Grows-trans, Grows-extends, Extends-refl, Extends-trans, AreNodes-extends, map-extends}
use Rattle.decision_diagram.specs.declared.node.Node.{Node}
use Rattle.decision_diagram.specs.Tree.{Tree, leaf, value, IsReduced}
use Rattle.decision_diagram.specs.Listing.{listing, root_of}
use Rattle.decision_diagram.specs.Table.{Table, table_of, tree_at, trees, diagram, IsTable}
use Rattle.decision_diagram.specs.Guarded.{with_edge, edges_into, Descent, descent, descend, Ascent, ascent, ascend, guarded_nodes, guarded}
use Rattle.decision_diagram.specs.Inside.Passes.{AreEdges}
use Rattle.decision_diagram.proofs.Branches.{branches}
use Rattle.decision_diagram.proofs.Made.{IsMade, none_made, any_made}
use Rattle.decision_diagram.proofs.Passing.{IsDescent, with_edge_within, length-with_edge, among_one, gone_down}
use Rattle.decision_diagram.proofs.Returning.{IsAscent, any_among, gone_up}

pub no_edges : (gates : List Gate) (n : ℕ) → AreEdges gates (replicate n [])
no_edges gates zero = tt
no_edges gates (suc n) = (tt, no_edges gates n)

-- ---- the passes over these nodes, begun at a root that is a branch
abbrev pub begun : List Node → ℕ → Made → Descent
begun nodes root start = descent start.gates (with_edge (replicate (length nodes - 2) []) root start.node) []

abbrev pub downward : List ℕ → List Node → ℕ → Made → Descent
downward bits nodes root start = descend bits 2 (begun nodes root start) (drop 2 nodes)

abbrev pub upward : List Node → Descent → Ascent
upward nodes down = ascend (ascent down.gates []) (drop 2 nodes) down.edges

pub is_begun : (bits : List ℕ) (nodes : List Node) (root : ℕ) (start : Made) → 2 ≤ root → root < length nodes → IsCircuit start.gates → start.node < length start.gates
    → IsDescent bits (length nodes - 2) start.node root start.gates (2 + length (drop 2 nodes)) [] (begun nodes root start)
is_begun bits nodes root start behind within circuit inside =
    let none : List (List ℕ) = replicate (length nodes - 2) [] in
    let long : length none ≡ length nodes - 2 = length-replicate (length nodes - 2) [] in
    record {
      circuit = circuit;
      grown = Grows-refl start.gates;
      long = length-with_edge none root start.node ∙ long;
      within = with_edge_within start.gates none root start.node (no_edges start.gates (length nodes - 2)) inside;
      pairs = tt;
      begun = among_one start.node none root behind (omega (arith, long, within, behind));
      taken = λ later inputs x. tt;
    }

pub is_down : (bits : List ℕ) (nodes : List Node) (count root : ℕ) (start : Made) → IsTable (table_of count nodes) → AreNodes start.gates bits → count ≤ length bits → 2 ≤ root → root < length nodes → IsCircuit start.gates → start.node < length start.gates
    → IsDescent bits (length nodes - 2) start.node root start.gates 2 (drop 2 nodes) (downward bits nodes root start)
is_down bits nodes count root start table bits_in few behind within circuit inside =
    gone_down bits (length nodes - 2) start.node root start.gates bits_in (trees nodes) 2 (drop 2 nodes) (begun nodes root start) (omega arith) (omega (arith, length-drop 2 nodes, behind, within))
    (branches count (length bits) nodes table few) (is_begun bits nodes root start behind within circuit inside)

pub is_up : (bits : List ℕ) (nodes : List Node) (count root edge : ℕ) (start : List Gate) (down : Descent) → IsTable (table_of count nodes) → count ≤ length bits → IsDescent bits (length nodes - 2) edge root start 2 (drop 2 nodes) down
    → IsAscent down.gates bits down.into (trees nodes) (2 + length (drop 2 nodes)) (upward nodes down)
is_up bits nodes count root edge start down table few is =
    gone_up down.gates bits down.into (trees nodes) table.always table.never 2 (drop 2 nodes) down.edges (ascent down.gates []) (branches count (length bits) nodes table few) is.pairs is.taken
    (record {
      circuit = is.circuit;
      grown = Grows-refl down.gates;
      long = refl;
      within = tt;
      value = λ later inputs x k behind before. absurd (omega (arith, behind, before));
    })

pub guarded_made : (gates : List Gate) (bits : List ℕ) (nodes : List Node) (count root : ℕ) → IsCircuit gates → AreNodes gates bits → count ≤ length bits → IsTable (table_of count nodes) → root < length nodes
    → IsMade gates (guarded_nodes gates bits nodes root) (λ w. value (tree_at (trees nodes) root) (map w bits))
guarded_made gates bits nodes count root circuit bits_in few table within = by (root == 0) (root == 1) refl refl
  where
    worth : (ℕ → Bool) → Bool
    worth w = value (tree_at (trees nodes) root) (map w bits)

    constant : (place : ℕ) (verdict : Bool) → root ≡ place → tree_at (trees nodes) place ≡ leaf verdict → (w : ℕ → Bool) → verdict ≡ worth w
    constant place verdict is tree w = sym (ap (λ p. value (tree_at (trees nodes) p) (map w bits)) is ∙ ap (λ t. value t (map w bits)) tree)

    start : Made
    start = found_or_added gates (gate.And [])

    starts : IsMade gates start (λ w. true)
    starts = none_made gates circuit

    down : Descent
    down = downward bits nodes root start

    up : Ascent
    up = upward nodes down

    by : (t s : Bool) → (root == 0) ≡ t → (root == 1) ≡ s
        → IsMade gates (if t then found_or_added gates (gate.Or []) else if s then start else made up.gates (get_or up.accepted (root - 2) 0)) worth
    by true s first second =
        let is : root ≡ 0 = grind (arith, nat_tests) in
        let m = any_made gates [] circuit tt in
        record {
          circuit = m.circuit;
          grown = m.grown;
          within = m.within;
          value = λ later inputs x. m.value later inputs x ∙ constant 0 false is table.never (node_value later inputs);
        }
    by false true first second =
        let is : root ≡ 1 = grind (arith, nat_tests) in
        record {
          circuit = starts.circuit;
          grown = starts.grown;
          within = starts.within;
          value = λ later inputs x. starts.value later inputs x ∙ constant 1 true is table.always (node_value later inputs);
        }
    by false false first second =
        let some : root ≡ 0 → ⊥ = λ is. (let test : (root == 0) ≡ true = grind (arith, nat_tests) in cc) in
        let more : root ≡ 1 → ⊥ = λ is. (let test : (root == 1) ≡ true = grind (arith, nat_tests) in cc) in
        let behind : 2 ≤ root = omega (arith, some, more) in
        let to_start = Grows-extends gates start.gates starts.grown in
        let gone = is_down bits nodes count root start table (AreNodes-extends gates start.gates to_start bits bits_in) few behind within starts.circuit starts.within in
        let done = is_up bits nodes count root start.node start.gates down table few gone in
        let end : 2 + length (drop 2 nodes) ≡ length nodes = omega (arith, length-drop 2 nodes, behind, within) in
        let from_start = Extends-trans start.gates down.gates up.gates (Grows-extends start.gates down.gates gone.grown) (Grows-extends down.gates up.gates done.grown) in
        record {
          circuit = done.circuit;
          grown = Grows-trans gates start.gates up.gates starts.grown (Grows-trans start.gates down.gates up.gates gone.grown done.grown);
          within = below_at (length up.gates) up.accepted (root - 2) 0 done.within (omega (arith, done.long, end, within, behind));
          value = λ later inputs x.
              let w : ℕ → Bool = node_value later inputs in
              let holds = any_among w start.node (edges_into down.into root) gone.begun (starts.value later inputs (Extends-trans start.gates up.gates later from_start x)) in
              done.value later inputs x root behind (omega (arith, end, within)) ∙ ap (λ r. r && worth w) holds;
        }

-- what the root's node is worth, over what the bits were worth before
pub guarded_value : (gates : List Gate) (bits : List ℕ) (nodes : List Node) (count root : ℕ) (m : Made) (inputs : List Bool) → AreNodes gates bits → IsMade gates m (λ w. value (tree_at (trees nodes) root) (map w bits))
    → node_value m.gates inputs m.node ≡ value (tree_at (trees nodes) root) (map (node_value gates inputs) bits)
guarded_value gates bits nodes count root m inputs bits_in is =
    is.value m.gates inputs (Extends-refl m.gates)
    ∙ ap (value (tree_at (trees nodes) root)) (map-extends gates m.gates (Grows-extends gates m.gates is.grown) inputs bits bits_in)

-- the gates of a reduced tree have its value, given that its listing is a table in which it stands at its root
abbrev pub ListingsAreTables : Type 0
ListingsAreTables = (count : ℕ) (t : Tree) → IsReduced 0 count t → IsTable (table_of count (listing t)) × (root_of t < length (listing t)) × (diagram (table_of count (listing t)) (root_of t) ≡ t)

pub gates_of_tree : ListingsAreTables → (gates : List Gate) (bits : List ℕ) (count : ℕ) (t : Tree) (inputs : List Bool) → IsCircuit gates → AreNodes gates bits → count ≤ length bits → IsReduced 0 count t
    → node_value (guarded gates bits t).gates inputs (guarded gates bits t).node ≡ value t (map (node_value gates inputs) bits)
unfolding guarded
gates_of_tree listed gates bits count t inputs circuit bits_in few reduced =
    let is = listed count t reduced in
    let made_by = guarded_made gates bits (listing t) count (root_of t) circuit bits_in few is.0 is.1 in
    guarded_value gates bits (listing t) count (root_of t) (guarded_nodes gates bits (listing t) (root_of t)) inputs bits_in made_by
    ∙ ap (λ tree. value tree (map (node_value gates inputs) bits)) is.2

-- ---- what the gates over a table with a diagram alone say of that diagram
as_guarded : (gates : List Gate) (bits : List ℕ) (table : Table) (count root : ℕ) (t : Tree) → table ≡ table_of count (listing t) → root ≡ root_of t → guarded_nodes gates bits table.nodes root ≡ guarded gates bits t
unfolding guarded
as_guarded gates bits table count root t nodes place = ap₂ (λ tb r. guarded_nodes gates bits tb.nodes r) nodes place

pub made_alone : (gates new : List Gate) (bits : List ℕ) (table : Table) (count root node : ℕ) (t : Tree) → IsCircuit gates → AreNodes gates bits → count ≤ length bits → table ≡ table_of count (listing t) → root ≡ root_of t → root < length table.nodes → diagram table root ≡ t → IsTable table
    → made new node ≡ guarded_nodes gates bits table.nodes root → (made new node ≡ guarded gates bits t) × (node < length new) × ((inputs : List Bool) → node_value new inputs node ≡ value t (map (node_value gates inputs) bits))
made_alone gates new bits table count root node t circuit bits_in few nodes place within same is made_by =
    let fewer : table.bits ≤ length bits = omega (arith, few, ap (λ tb. tb.bits) nodes) in
    let gates_are = guarded_made gates bits table.nodes table.bits root circuit bits_in fewer is within in
    let all = subst (λ n. IsMade gates n (λ w. value (diagram table root) (map w bits))) (sym made_by) gates_are in (
      made_by ∙ as_guarded gates bits table count root t nodes place,
      all.within,
      λ inputs. guarded_value gates bits table.nodes table.bits root (made new node) inputs bits_in all ∙ ap (λ tree. value tree (map (node_value gates inputs) bits)) same,
    )

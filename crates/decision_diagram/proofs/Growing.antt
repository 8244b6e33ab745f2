-- A table of nodes with one node more.
use Rattle.std.proofs.Common.{◌≡◌, ◌⊎◌, ℕ, ◌<◌, ◌≤◌, ◌+◌, zero, suc, true, false, List, [], ◌∷◌, ◌++◌, length, Some, get_or, refl, sym, ap, ap₂, subst, ◌∙◌, inl, inr, arith}
use Rattle.std.specs.List.{slice_get, fold}
use Rattle.std.proofs.lemmas.Bool.{cases_lt}
use Rattle.std.proofs.lemmas.List.{get_or_append_left, get_or_push, length_push}
use Rattle.std.proofs.lemmas.List.Sums.{fold-append}
use Rattle.std.proofs.lemmas.Option.{slice_get_within, slice_get-get_or, get_or_from_slice_get}
use Rattle.decision_diagram.specs.declared.node.Node.{Node}
use Rattle.decision_diagram.specs.declared.node.Node.TheVariants as node
use Rattle.decision_diagram.specs.Tree.{Tree, leaf, branch, IsReduced}
use Rattle.decision_diagram.specs.Table.{Table, Extends, IsTable, IsOf, LooksFrom, AreEndsBefore, diagram, node_tree, table_of, tree_at, trees, two_leaves, with_node}

-- ---- the trees of the nodes
pub trees_push : (nodes : List Node) (n : Node) → trees (nodes ++ n ∷ []) ≡ trees nodes ++ node_tree (trees nodes) n ∷ []
unfolding trees
trees_push nodes n = fold-append with_node [] nodes (n ∷ [])

length_so_far : (so_far : List Tree) (nodes : List Node) → length (fold with_node so_far nodes) ≡ length so_far + length nodes
length_so_far so_far [] = omega arith
length_so_far so_far (n ∷ nodes) = omega (arith, length_so_far (with_node so_far n) nodes, length_push so_far (node_tree so_far n))

pub length_trees : (nodes : List Node) → length (trees nodes) ≡ length nodes
unfolding trees
length_trees nodes = omega (arith, length_so_far [] nodes)

-- an older place keeps its tree, and the new one has that of its node
pub older_tree : (bits : ℕ) (nodes : List Node) (n : Node) (d : ℕ) → d < length nodes →
    diagram (table_of bits (nodes ++ n ∷ [])) d ≡ diagram (table_of bits nodes) d
older_tree bits nodes n d within =
    ap (λ ts. tree_at ts d) (trees_push nodes n)
    ∙ get_or_append_left (trees nodes) (node_tree (trees nodes) n ∷ []) (leaf false) d (omega (arith, within, length_trees nodes))

pub newest_tree : (bits : ℕ) (nodes : List Node) (n : Node) → diagram (table_of bits (nodes ++ n ∷ [])) (length nodes) ≡ node_tree (trees nodes) n
newest_tree bits nodes n =
    ap (λ ts. tree_at ts (length nodes)) (trees_push nodes n)
    ∙ get_or_push (trees nodes) (node_tree (trees nodes) n) (leaf false) (length nodes) (length_trees nodes)

-- a node with ends among the older ones has its tree still
node_tree_later : (bits : ℕ) (nodes : List Node) (n m : Node) (place : ℕ) → place ≤ length nodes → AreEndsBefore place m →
    node_tree (trees (nodes ++ n ∷ [])) m ≡ node_tree (trees nodes) m
node_tree_later bits nodes n (node.Leaf constant) place most ends = refl
node_tree_later bits nodes n (node.Branch bit low high) place most ends =
    ap₂ (branch bit) (older_tree bits nodes n low (omega (arith, most, ends.0))) (older_tree bits nodes n high (omega (arith, most, ends.1)))

pub extends_by_one : (bits : ℕ) (nodes : List Node) (n : Node) → Extends (table_of bits nodes) (table_of bits (nodes ++ n ∷ []))
extends_by_one bits nodes n = record {
  bits = refl;
  longer = omega (arith, length_push nodes n);
  older = older_tree bits nodes n;
}

-- ---- where a node of the longer list stands
pub by_place : {X : Type 0} (xs : List X) (x : X) (place : ℕ) (y : X) → slice_get (xs ++ x ∷ []) place ≡ Some y → (slice_get xs place ≡ Some y) ⊎ ((place ≡ length xs) × (y ≡ x))
by_place xs x place y there =
    let within = slice_get_within (xs ++ x ∷ []) place y there in
    let is : get_or (xs ++ x ∷ []) place y ≡ y = get_or_from_slice_get (xs ++ x ∷ []) place y y there in
    elim (cases_lt place (length xs)) [
      | inl lt ↦ inl (slice_get-get_or xs place y lt ∙ ap Some (sym (get_or_append_left xs (x ∷ []) y place lt) ∙ is))
      | inr ge ↦ (
          let last : length xs ≡ place = omega (arith, ge, within, length_push xs x) in
          inr (sym last, sym is ∙ get_or_push xs x y place last))
    ]

-- ---- a node is known by its tree
ends_later : (place later : ℕ) (n : Node) → place ≤ later → AreEndsBefore place n → AreEndsBefore later n
ends_later place later (node.Leaf constant) before ends = ends
ends_later place later (node.Branch bit low high) before ends = (omega (arith, before, ends.0), omega (arith, before, ends.1))

equal_nodes : (table : Table) (a b : Node) → IsTable table → AreEndsBefore (length table.nodes) a → AreEndsBefore (length table.nodes) b →
    node_tree (trees table.nodes) a ≡ node_tree (trees table.nodes) b → a ≡ b
equal_nodes table (node.Leaf x) (node.Leaf y) is a_ends b_ends same = cc
equal_nodes table (node.Leaf x) (node.Branch bit low high) is a_ends b_ends same = cc
equal_nodes table (node.Branch bit low high) (node.Leaf y) is a_ends b_ends same = cc
equal_nodes table (node.Branch bit low high) (node.Branch other a b) is a_ends b_ends same =
    let bits : bit ≡ other = cc in
    let lows : low ≡ a = is.different low a a_ends.0 b_ends.0 (cc) in
    let highs : high ≡ b = is.different high b a_ends.1 b_ends.1 (cc) in
    (cc)

new_tree : (table : Table) (n : Node) → IsTable table → AreEndsBefore (length table.nodes) n → ((place : ℕ) → slice_get table.nodes place ≡ Some n → ⊥) →
    (d : ℕ) → IsOf table d → diagram table d ≡ node_tree (trees table.nodes) n → ⊥
new_tree table n is ends absent d within same =
    let older : Node = get_or table.nodes d n in
    let there : slice_get table.nodes d ≡ Some older = slice_get-get_or table.nodes d n within in
    let older_ends = ends_later d (length table.nodes) older (omega (arith, within)) (is.ends d older there) in
    absent d (there ∙ ap Some (equal_nodes table older n is older_ends ends (sym (is.built d older there) ∙ same)))

-- ---- the longer table
pub table_grown : (bits : ℕ) (nodes : List Node) (n : Node) → IsTable (table_of bits nodes) → AreEndsBefore (length nodes) n →
    ((place : ℕ) → slice_get nodes place ≡ Some n → ⊥) → IsReduced 0 bits (node_tree (trees nodes) n) → IsTable (table_of bits (nodes ++ n ∷ []))
table_grown bits nodes n is ends absent reduced =
    let old : Table = table_of bits nodes in
    let new : Table = table_of bits (nodes ++ n ∷ []) in
    let long : length (nodes ++ n ∷ []) ≡ length nodes + 1 = omega (arith, length_push nodes n) in
    let older : (d : ℕ) → d < length nodes → diagram new d ≡ diagram old d = older_tree bits nodes n in
    let last : (d : ℕ) → length nodes ≤ d → IsOf new d → diagram new d ≡ node_tree (trees nodes) n =
    λ d ge within. ap (diagram new) (let e : d ≡ length nodes = omega (arith, ge, within, long) in e) ∙ newest_tree bits nodes n in
    let other : (d : ℕ) → IsOf old d → diagram old d ≡ node_tree (trees nodes) n → ⊥ = new_tree old n is ends absent in
    record {
      leaves = omega (arith, long, is.leaves);
      never = older 0 (omega (arith, is.leaves)) ∙ is.never;
      always = older 1 (omega (arith, is.leaves)) ∙ is.always;
      ends = λ place m there. elim (by_place nodes n place m there) [
        | inl was ↦ is.ends place m was
        | inr at ↦ rw (at.0, at.1) ends
      ];
      built = λ place m there. elim (by_place nodes n place m there) [
        | inl was ↦
            let within = slice_get_within nodes place m was in
            older place within ∙ is.built place m was ∙ sym (node_tree_later bits nodes n m place (omega (arith, within)) (is.ends place m was))
        | inr at ↦
            ap (diagram new) at.0 ∙ newest_tree bits nodes n
            ∙ sym (ap (node_tree (trees (nodes ++ n ∷ []))) at.1 ∙ node_tree_later bits nodes n n (length nodes) (omega arith) ends)
      ];
      reduced = λ d within. elim (cases_lt d (length nodes)) [
        | inl lt ↦ subst (IsReduced 0 bits) (sym (older d lt)) (is.reduced d lt)
        | inr ge ↦ subst (IsReduced 0 bits) (sym (last d ge within)) reduced
      ];
      different = λ a b a_within b_within same. elim (cases_lt a (length nodes)) [
        | inl a_lt ↦ elim (cases_lt b (length nodes)) [
          | inl b_lt ↦ is.different a b a_lt b_lt (sym (older a a_lt) ∙ same ∙ older b b_lt)
          | inr b_ge ↦ absurd (other a a_lt (sym (older a a_lt) ∙ same ∙ last b b_ge b_within))
        ]
        | inr a_ge ↦ elim (cases_lt b (length nodes)) [
          | inl b_lt ↦ absurd (other b b_lt (sym (older b b_lt) ∙ sym same ∙ last a a_ge a_within))
          | inr b_ge ↦ omega (arith, a_ge, a_within, b_ge, b_within, long)
        ]
      ];
    }

-- ---- the first table
first_ends : (place : ℕ) (n : Node) → slice_get two_leaves place ≡ Some n → AreEndsBefore place n
first_ends place (node.Leaf constant) there = tt
first_ends zero (node.Branch bit low high) there = cc
first_ends (suc zero) (node.Branch bit low high) there = cc
first_ends (suc (suc place)) (node.Branch bit low high) there = cc

first_built : (bits place : ℕ) (n : Node) → slice_get two_leaves place ≡ Some n → diagram (table_of bits two_leaves) place ≡ node_tree (trees two_leaves) n
unfolding trees
first_built bits zero (node.Leaf constant) there = cc
first_built bits (suc zero) (node.Leaf constant) there = cc
first_built bits (suc (suc place)) (node.Leaf constant) there = cc
first_built bits zero (node.Branch bit low high) there = cc
first_built bits (suc zero) (node.Branch bit low high) there = cc
first_built bits (suc (suc place)) (node.Branch bit low high) there = cc

first_reduced : (bits d : ℕ) → d < 2 → LooksFrom (table_of bits two_leaves) 0 d
unfolding trees
first_reduced bits zero within = tt
first_reduced bits (suc zero) within = tt
first_reduced bits (suc (suc d)) within = absurd (omega (arith, within))

first_different : (bits a b : ℕ) → a < 2 → b < 2 → diagram (table_of bits two_leaves) a ≡ diagram (table_of bits two_leaves) b → a ≡ b
unfolding trees
first_different bits zero zero a_within b_within same = refl
first_different bits zero (suc zero) a_within b_within same = cc
first_different bits (suc zero) zero a_within b_within same = cc
first_different bits (suc zero) (suc zero) a_within b_within same = refl
first_different bits (suc (suc a)) b a_within b_within same = absurd (omega (arith, a_within))
first_different bits a (suc (suc b)) a_within b_within same = absurd (omega (arith, b_within))

first_leaves : (bits : ℕ) → (diagram (table_of bits two_leaves) 0 ≡ leaf false) × (diagram (table_of bits two_leaves) 1 ≡ leaf true)
unfolding trees
first_leaves bits = (refl, refl)

pub first_table : (bits : ℕ) → IsTable (table_of bits two_leaves)
first_table bits = record {
  leaves = omega arith;
  never = (first_leaves bits).0;
  always = (first_leaves bits).1;
  ends = first_ends;
  built = first_built bits;
  reduced = first_reduced bits;
  different = first_different bits;
}

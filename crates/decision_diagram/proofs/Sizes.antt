-- The parts of a diagram of a table are diagrams of the table: there are no more of them than nodes.
use Rattle.std.proofs.Common.{◌≡◌, ℕ, ◌<◌, ◌≤◌, zero, suc, true, false, List, [], ◌∷◌, ◌++◌, length, get_or, Some, refl, sym, ap, subst, ◌∙◌, inl, inr, arith}
use Rattle.std.specs.List.{slice_get}
use Rattle.std.proofs.lemmas.Bool.{cases_lt}
use Rattle.std.proofs.lemmas.List.{get_or_append_left, get_or_push, length_push}
use Rattle.std.proofs.lemmas.Option.{slice_get-get_or}
use Rattle.indexmap.proofs.IndexTableLemmas.Probe.{pigeonhole}
use Rattle.decision_diagram.specs.declared.node.Node.{Node}
use Rattle.decision_diagram.specs.declared.node.Node.TheVariants as node
use Rattle.decision_diagram.specs.Tree.{Tree, leaf, branch}
use Rattle.decision_diagram.specs.Table.{Table, IsTable, IsOf, AreEndsBefore, diagram, node_tree, tree_at, trees}
use Rattle.decision_diagram.specs.Listing.{parts, place_in, size}
use Rattle.decision_diagram.proofs.Growing.{length_trees}
use Rattle.decision_diagram.proofs.Parts.{has, HasEnds, by_parts, stands, stands_at}
use Rattle.decision_diagram.proofs.Listed.{AreListed, parts_are_listed}

pub diagram_there : (table : Table) (d : ℕ) (t : Tree) → IsOf table d → diagram table d ≡ t → has (trees table.nodes) t ≡ true
diagram_there table d t within is = stands_at (trees table.nodes) t d (omega (arith, within, length_trees table.nodes)) is

ends_of_built : (ts : List Tree) (place : ℕ) (n : Node) (t : Tree) → place ≤ length ts → AreEndsBefore place n → node_tree ts n ≡ t → HasEnds ts t
ends_of_built ts place (node.Leaf constant) (leaf other) within ends is = tt
ends_of_built ts place (node.Leaf constant) (branch bit low high) within ends is = absurd (cc)
ends_of_built ts place (node.Branch bit low high) (leaf other) within ends is = absurd (cc)
ends_of_built ts place (node.Branch bit low high) (branch other a b) within ends is =
    let lows : tree_at ts low ≡ a = cc in
    let highs : tree_at ts high ≡ b = cc in
    (stands_at ts a low (omega (arith, within, ends.0)) lows, stands_at ts b high (omega (arith, within, ends.1)) highs)

-- a tree of a table has its ends there
pub table_has_ends : (table : Table) (t : Tree) → IsTable table → has (trees table.nodes) t ≡ true → HasEnds (trees table.nodes) t
table_has_ends table t is there =
    let ts : List Tree = trees table.nodes in
    let at = stands (trees table.nodes) t there in
    let place : ℕ = place_in (trees table.nodes) t in
    let within : place < length table.nodes = omega (arith, at.0, length_trees table.nodes) in
    let n : Node = get_or table.nodes place (node.Leaf false) in
    let some : slice_get table.nodes place ≡ Some n = slice_get-get_or table.nodes place (node.Leaf false) within in
    ends_of_built ts place n t (omega (arith, at.0)) (is.ends place n some) (sym (is.built place n some) ∙ at.1)

abbrev AllThere : List Tree → List Tree → Type 0
AllThere all ts = (place : ℕ) → place < length ts → has all (tree_at ts place) ≡ true

there_more : (all ts : List Tree) (t : Tree) → AllThere all ts → has all t ≡ true → AllThere all (ts ++ t ∷ [])
there_more all ts t before there place within = elim (cases_lt place (length ts)) [
  | inl lt ↦ subst (λ s. has all s ≡ true) (sym (get_or_append_left ts (t ∷ []) (leaf false) place lt)) (before place lt)
  | inr ge ↦ (
      let last : length ts ≡ place = omega (arith, ge, within, length_push ts t) in
      subst (λ s. has all s ≡ true) (sym (get_or_push ts t (leaf false) place last)) there)
]

two_there : (table : Table) → IsTable table → AllThere (trees table.nodes) (leaf false ∷ leaf true ∷ [])
two_there table is zero within = diagram_there table 0 (leaf false) (omega (arith, is.leaves)) is.never
two_there table is (suc zero) within = diagram_there table 1 (leaf true) (omega (arith, is.leaves)) is.always
two_there table is (suc (suc place)) within = absurd (omega arith)

parts_there : (table : Table) (t : Tree) → IsTable table → has (trees table.nodes) t ≡ true → AllThere (trees table.nodes) (parts t)
parts_there table t is there =
    by_parts (AllThere (trees table.nodes)) (λ s. has (trees table.nodes) s ≡ true)
    (λ ts s before s_there absent has_ends. there_more (trees table.nodes) ts s before s_there)
    (λ bit low high whole. table_has_ends table (branch bit low high) is whole)
    t (leaf false ∷ leaf true ∷ []) there (two_there table is)

pub size_within : (table : Table) (d : ℕ) → IsTable table → IsOf table d → size (diagram table d) ≤ length table.nodes
size_within table d is within =
    let t : Tree = diagram table d in
    let ts : List Tree = trees table.nodes in
    let are : AreListed table.bits (parts t) = parts_are_listed table.bits t (is.reduced d within) in
    let there : AllThere ts (parts t) = parts_there table t is (diagram_there table d t within refl) in
    let place : ℕ → ℕ = λ k. place_in ts (tree_at (parts t) k) in
    let at : (k : ℕ) → k < length (parts t) → (place k < length ts) × (tree_at ts (place k) ≡ tree_at (parts t) k) =
    λ k lt. stands ts (tree_at (parts t) k) (there k lt) in
    pigeonhole (length (parts t)) (length table.nodes) place
    (λ k lt. omega (arith, (at k lt).0, length_trees table.nodes))
    (λ a b a_lt b_lt same. are.once a b a_lt b_lt (sym (at a a_lt).1 ∙ ap (tree_at ts) same ∙ (at b b_lt).1))

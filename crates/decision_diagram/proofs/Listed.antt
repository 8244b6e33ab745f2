-- The nodes of a listing are a table, and the tree that is listed stands at the root.
use Rattle.std.proofs.Common.{◌≡◌, ℕ, ◌<◌, ◌≤◌, ◌+◌, zero, suc, true, false, List, [], ◌∷◌, ◌++◌, length, map, Some, refl, sym, ap, ap₂, subst, ◌∙◌, inl, inr, arith}
use Rattle.std.specs.List.{slice_get}
use Rattle.std.proofs.lemmas.Bool.{cases_lt}
use Rattle.std.proofs.lemmas.List.{append-nil, append_assoc, get_or_append_left, get_or_push, get_or-map, length-map, length_push, map_push}
use Rattle.std.proofs.lemmas.Option.{slice_get_within, get_or_from_slice_get}
use Rattle.decision_diagram.specs.declared.node.Node.{Node}
use Rattle.decision_diagram.specs.Tree.{Tree, leaf, branch, IsReduced}
use Rattle.decision_diagram.specs.Table.{IsTable, IsOf, AreEndsBefore, diagram, node_tree, table_of, tree_at, trees}
use Rattle.decision_diagram.specs.Listing.{parts, place_in, node_over, listing, root_of}
use Rattle.decision_diagram.proofs.Growing.{trees_push}
use Rattle.decision_diagram.proofs.Parts.{has, HasEnds, by_parts, has_whole, same_place, stands, stands_at, is_there}

-- ---- lists of trees that can be listed
-- the ends of a tree stand before this place
abbrev pub EndsBefore : List Tree → ℕ → Tree → Type 0
EndsBefore ts place (leaf constant) = Unit {0}
EndsBefore ts place (branch bit low high) = (place_in ts low < place) × (place_in ts high < place)

-- the two leaves first, no tree twice, each ordered and reduced and behind its ends; and its nodes, whatever stands behind them,
-- have these trees
pub record AreListed (count : ℕ) (ts : List Tree) : Type 0 where
  pub start : (more : List Tree) × (ts ≡ leaf false ∷ leaf true ∷ more)
  pub once : (a b : ℕ) → a < length ts → b < length ts → tree_at ts a ≡ tree_at ts b → a ≡ b
  pub ends : (place : ℕ) → place < length ts → EndsBefore ts place (tree_at ts place)
  pub reduced : (place : ℕ) → place < length ts → IsReduced 0 count (tree_at ts place)
  pub listed : (more : List Tree) → trees (map (node_over (ts ++ more)) ts) ≡ ts

older : (ts : List Tree) (t : Tree) (place : ℕ) → place < length ts → tree_at (ts ++ t ∷ []) place ≡ tree_at ts place
older ts t place within = get_or_append_left ts (t ∷ []) (leaf false) place within

newest : (ts : List Tree) (t : Tree) → tree_at (ts ++ t ∷ []) (length ts) ≡ t
newest ts t = get_or_push ts t (leaf false) (length ts) refl

ends_still : (ts more : List Tree) (place : ℕ) (s : Tree) → place ≤ length ts → EndsBefore ts place s → EndsBefore (ts ++ more) place s
ends_still ts more place (leaf constant) within ends = tt
ends_still ts more place (branch bit low high) within ends =
    let first = same_place ts more low (is_there ts low (omega (arith, within, ends.0))) in
    let second = same_place ts more high (is_there ts high (omega (arith, within, ends.1))) in
    (omega (arith, first, ends.0), omega (arith, second, ends.1))

ends_known : (ts : List Tree) (t : Tree) → HasEnds ts t → EndsBefore ts (length ts) t
ends_known ts (leaf constant) has_ends = tt
ends_known ts (branch bit low high) has_ends = ((stands ts low has_ends.0).0, (stands ts high has_ends.1).0)

node_back : (ts more : List Tree) (t : Tree) → HasEnds ts t → node_tree ts (node_over (ts ++ more) t) ≡ t
node_back ts more (leaf constant) has_ends = refl
node_back ts more (branch bit low high) has_ends =
    ap₂ (branch bit)
    (ap (tree_at ts) (same_place ts more low has_ends.0) ∙ (stands ts low has_ends.0).1)
    (ap (tree_at ts) (same_place ts more high has_ends.1) ∙ (stands ts high has_ends.1).1)

listed_push : (ts more : List Tree) (t : Tree) → HasEnds ts t → ((more : List Tree) → trees (map (node_over (ts ++ more)) ts) ≡ ts) → trees (map (node_over ((ts ++ t ∷ []) ++ more)) (ts ++ t ∷ [])) ≡ ts ++ t ∷ []
listed_push ts more t has_ends before =
    let same : (ts ++ t ∷ []) ++ more ≡ ts ++ (t ∷ more) = append_assoc ts (t ∷ []) more in
    let known : trees (map (node_over (ts ++ (t ∷ more))) ts) ≡ ts = before (t ∷ more) in
    ap (λ all. trees (map (node_over all) (ts ++ t ∷ []))) same
    ∙ ap trees (map_push (node_over (ts ++ (t ∷ more))) ts t)
    ∙ trees_push (map (node_over (ts ++ (t ∷ more))) ts) (node_over (ts ++ (t ∷ more)) t)
    ∙ ap (λ all. all ++ node_tree all (node_over (ts ++ (t ∷ more)) t) ∷ []) known
    ∙ ap (λ s. ts ++ s ∷ []) (node_back ts (t ∷ more) t has_ends)

new_is_other : (ts : List Tree) (t : Tree) (place : ℕ) → has ts t ≡ false → place < length ts → tree_at ts place ≡ t → ⊥
new_is_other ts t place absent within is =
    let wrong : false ≡ true = sym absent ∙ stands_at ts t place within is in
    absurd (cc)

listed_more : (count : ℕ) (ts : List Tree) (t : Tree) → AreListed count ts → IsReduced 0 count t → has ts t ≡ false → HasEnds ts t → AreListed count (ts ++ t ∷ [])
listed_more count ts t are reduced absent has_ends =
    let long : length (ts ++ t ∷ []) ≡ length ts + 1 = length_push ts t in
    record {
      start = (are.start.0 ++ t ∷ [], ap (λ all. all ++ t ∷ []) are.start.1);
      once = λ a b ha hb e. elim (cases_lt a (length ts)) [
        | inl la ↦ elim (cases_lt b (length ts)) [
          | inl lb ↦ are.once a b la lb (sym (older ts t a la) ∙ e ∙ older ts t b lb)
          | inr gb ↦ (
              let last : b ≡ length ts = omega (arith, gb, hb, long) in
              absurd (new_is_other ts t a absent la (sym (older ts t a la) ∙ e ∙ ap (tree_at (ts ++ t ∷ [])) last ∙ newest ts t)))
        ]
        | inr ga ↦ elim (cases_lt b (length ts)) [
          | inl lb ↦ (
              let last : a ≡ length ts = omega (arith, ga, ha, long) in
              absurd (new_is_other ts t b absent lb (sym (older ts t b lb) ∙ sym e ∙ ap (tree_at (ts ++ t ∷ [])) last ∙ newest ts t)))
          | inr gb ↦ omega (arith, ga, ha, gb, hb, long)
        ]
      ];
      ends = λ place within. elim (cases_lt place (length ts)) [
        | inl lt ↦ subst (EndsBefore (ts ++ t ∷ []) place) (sym (older ts t place lt)) (ends_still ts (t ∷ []) place (tree_at ts place) (omega (arith, lt)) (are.ends place lt))
        | inr ge ↦ (
            let last : length ts ≡ place = omega (arith, ge, within, long) in
            subst (λ at. EndsBefore (ts ++ t ∷ []) at (tree_at (ts ++ t ∷ []) at)) last
            (subst (EndsBefore (ts ++ t ∷ []) (length ts)) (sym (newest ts t)) (ends_still ts (t ∷ []) (length ts) t (omega arith) (ends_known ts t has_ends))))
      ];
      reduced = λ place within. elim (cases_lt place (length ts)) [
        | inl lt ↦ subst (IsReduced 0 count) (sym (older ts t place lt)) (are.reduced place lt)
        | inr ge ↦ (
            let last : place ≡ length ts = omega (arith, ge, within, long) in
            subst (IsReduced 0 count) (sym (ap (tree_at (ts ++ t ∷ [])) last ∙ newest ts t)) reduced)
      ];
      listed = λ more. listed_push ts more t has_ends are.listed;
    }

-- an order that starts at a later bit starts at the first one, too
from_first : (first count : ℕ) (t : Tree) → IsReduced first count t → IsReduced 0 count t
from_first first count (leaf constant) reduced = reduced
from_first first count (branch bit low high) reduced = (omega arith, reduced.1, reduced.2, reduced.3, reduced.4)

pub reduced_ends : (count bit : ℕ) (low high : Tree) → IsReduced 0 count (branch bit low high) → IsReduced 0 count low × IsReduced 0 count high
reduced_ends count bit low high reduced = (from_first (bit + 1) count low reduced.3, from_first (bit + 1) count high reduced.4)

two_trees : (more : List Tree) → trees (map (node_over ((leaf false ∷ leaf true ∷ []) ++ more)) (leaf false ∷ leaf true ∷ [])) ≡ leaf false ∷ leaf true ∷ []
unfolding trees
two_trees more = refl

two_listed : (count : ℕ) → AreListed count (leaf false ∷ leaf true ∷ [])
two_listed count = record {
  start = ([], refl);
  once = two_once;
  ends = two_ends;
  reduced = two_reduced;
  listed = two_trees;
}
  where
    two_once : (a b : ℕ) → a < 2 → b < 2 → tree_at (leaf false ∷ leaf true ∷ []) a ≡ tree_at (leaf false ∷ leaf true ∷ []) b → a ≡ b
    two_once zero zero ha hb e = refl
    two_once zero (suc zero) ha hb e = absurd (cc)
    two_once (suc zero) zero ha hb e = absurd (cc)
    two_once (suc zero) (suc zero) ha hb e = refl
    two_once (suc (suc a)) b ha hb e = absurd (omega arith)
    two_once a (suc (suc b)) ha hb e = absurd (omega arith)

    two_ends : (place : ℕ) → place < 2 → EndsBefore (leaf false ∷ leaf true ∷ []) place (tree_at (leaf false ∷ leaf true ∷ []) place)
    two_ends zero within = tt
    two_ends (suc zero) within = tt
    two_ends (suc (suc place)) within = absurd (omega arith)

    two_reduced : (place : ℕ) → place < 2 → IsReduced 0 count (tree_at (leaf false ∷ leaf true ∷ []) place)
    two_reduced zero within = tt
    two_reduced (suc zero) within = tt
    two_reduced (suc (suc place)) within = absurd (omega arith)

pub parts_are_listed : (count : ℕ) (t : Tree) → IsReduced 0 count t → AreListed count (parts t)
parts_are_listed count t reduced =
    by_parts (AreListed count) (IsReduced 0 count)
    (λ ts s are r absent has_ends. listed_more count ts s are r absent has_ends)
    (λ bit low high r. reduced_ends count bit low high r)
    t (leaf false ∷ leaf true ∷ []) reduced (two_listed count)

-- ---- the listing of a tree
pub listing_trees : (count : ℕ) (t : Tree) → IsReduced 0 count t → trees (listing t) ≡ parts t
listing_trees count t reduced =
    let known = (parts_are_listed count t reduced).listed [] in
    subst (λ all. trees (map (node_over all) (parts t)) ≡ parts t) (append-nil (parts t)) known

pub listing_root : (count : ℕ) (t : Tree) → IsReduced 0 count t → diagram (table_of count (listing t)) (root_of t) ≡ t
listing_root count t reduced =
    ap (λ all. tree_at all (root_of t)) (listing_trees count t reduced) ∙ (stands (parts t) t (has_whole t (leaf false ∷ leaf true ∷ []))).1

pub root_within : (count : ℕ) (t : Tree) → IsReduced 0 count t → IsOf (table_of count (listing t)) (root_of t)
root_within count t reduced =
    let place = (stands (parts t) t (has_whole t (leaf false ∷ leaf true ∷ []))).0 in
    omega (arith, place, length-map (parts t) (node_over (parts t)))

ends_of_node : (ts : List Tree) (place : ℕ) (t : Tree) → EndsBefore ts place t → AreEndsBefore place (node_over ts t)
ends_of_node ts place (leaf constant) ends = tt
ends_of_node ts place (branch bit low high) ends = (ends.0, ends.1)

node_again : (ts : List Tree) (place : ℕ) (t : Tree) → place ≤ length ts → EndsBefore ts place t → node_tree ts (node_over ts t) ≡ t
node_again ts place (leaf constant) within ends = refl
node_again ts place (branch bit low high) within ends =
    ap₂ (branch bit)
    (stands ts low (is_there ts low (omega (arith, within, ends.0)))).1
    (stands ts high (is_there ts high (omega (arith, within, ends.1)))).1

-- the node at a place is that of the tree there
node_there : (ts : List Tree) (place : ℕ) (n : Node) → slice_get (map (node_over ts) ts) place ≡ Some n → (place < length ts) × (node_over ts (tree_at ts place) ≡ n)
node_there ts place n there =
    let within : place < length ts = omega (arith, slice_get_within (map (node_over ts) ts) place n there, length-map ts (node_over ts)) in
    (within, sym (get_or-map (node_over ts) ts place (leaf false) n within) ∙ get_or_from_slice_get (map (node_over ts) ts) place n n there)

listed_table : (count : ℕ) (ts : List Tree) → AreListed count ts → trees (map (node_over ts) ts) ≡ ts → IsTable (table_of count (map (node_over ts) ts))
listed_table count ts are back =
    let long : length (map (node_over ts) ts) ≡ length ts = length-map ts (node_over ts) in
    let at : (d : ℕ) → tree_at (trees (map (node_over ts) ts)) d ≡ tree_at ts d = λ d. ap (λ all. tree_at all d) back in
    record {
      leaves = omega (arith, long, ap length are.start.1);
      never = at 0 ∙ ap (λ all. tree_at all 0) are.start.1;
      always = at 1 ∙ ap (λ all. tree_at all 1) are.start.1;
      ends = λ place n there.
          let here = node_there ts place n there in
          subst (AreEndsBefore place) here.1 (ends_of_node ts place (tree_at ts place) (are.ends place here.0));
      built = λ place n there.
          let here = node_there ts place n there in
          at place
          ∙ sym (node_again ts place (tree_at ts place) (omega (arith, here.0)) (are.ends place here.0))
          ∙ ap₂ node_tree (sym back) here.1;
      reduced = λ d within. subst (IsReduced 0 count) (sym (at d)) (are.reduced d (omega (arith, within, long)));
      different = λ a b ha hb e. are.once a b (omega (arith, ha, long)) (omega (arith, hb, long)) (sym (at a) ∙ e ∙ at b);
    }

pub listing_table : (count : ℕ) (t : Tree) → IsReduced 0 count t → IsTable (table_of count (listing t))
listing_table count t reduced = listed_table count (parts t) (parts_are_listed count t reduced) (listing_trees count t reduced)

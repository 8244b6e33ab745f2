-- A diagram's nodes copied into a fresh table: what is there already, what is added, and the table of one diagram alone.
use Rattle.std.proofs.Common.{◌≡◌, ◌⊎◌, ℕ, ◌<◌, ◌≤◌, zero, suc, Bool, true, false, List, [], ◌∷◌, ◌++◌, length, length-append, map, replicate, Option, Some, None, get_or, set, refl, sym, ap, ap₂, subst, ◌∙◌, inl, inr, arith}
use Rattle.std.specs.List.{slice_get}
use Rattle.std.proofs.lemmas.Bool.{cases_eq}
use Rattle.std.proofs.lemmas.List.{ext_get_or, get_or_default, get_or_push, get_or-map, get_or-set_same, get_or-set_other, length-map, length-set, length-replicate, length_push}
use Rattle.std.proofs.lemmas.Option.{slice_get_within, slice_get-get_or}
use Rattle.decision_diagram.specs.declared.node.Node.{Node}
use Rattle.decision_diagram.specs.declared.node.Node.TheVariants as node
use Rattle.decision_diagram.specs.Tree.{Tree, leaf, branch, IsReduced}
use Rattle.decision_diagram.specs.Table.{Table, AreEndsBefore, Extends, IsFoundOrAdded, IsOf, IsTable, diagram, node_tree, table_of, tree_at, trees, two_leaves}
use Rattle.decision_diagram.specs.Listing.{same_tree, with_parts, parts, node_over, listing, root_of, place_in}
use Rattle.decision_diagram.specs.Inside.Copying.{AreCopies, copy_at}
use Rattle.decision_diagram.proofs.Growing.{first_table, length_trees, table_grown, trees_push}
use Rattle.decision_diagram.proofs.Parts.{grows, has, nothing_new, not_last, not_yet, same_trees_are_one, stands}
use Rattle.decision_diagram.proofs.Sizes.{diagram_there}

-- ---- a diagram that was copied
pub read_at : (copies : List (Option ℕ)) (root place : ℕ) (found : Option ℕ) → place ≡ root → root < length copies → found ≡ get_or copies place found → copy_at copies root ≡ found
read_at copies root place found is within read = get_or_default copies root None found within ∙ ap (λ d. get_or copies d found) (sym is) ∙ sym read

pub copied_before : (source fresh : Table) (copies : List (Option ℕ)) (d place copy : ℕ) (found : Option ℕ) → AreCopies source fresh copies → IsOf source d →
    place ≡ d → found ≡ get_or copies place found → found ≡ Some copy → trees fresh.nodes ≡ with_parts (trees fresh.nodes) (diagram source d)
copied_before source fresh copies d place copy found are within is read some =
    let at : d < length copies = omega (arith, within, are.count) in
    let there : copy_at copies d ≡ Some copy = read_at copies d place found is at read ∙ some in
    sym (nothing_new (diagram source d) (trees fresh.nodes) (diagram_there fresh copy (diagram source d) (are.within d copy there) (are.same d copy there)))

-- ---- a branch that was not
with_branch : (ts : List Tree) (bit : ℕ) (low high : Tree) → has ts (branch bit low high) ≡ false → with_parts ts (branch bit low high) ≡ with_parts (with_parts ts low) high ++ branch bit low high ∷ []
with_branch ts bit low high absent = rw absent refl

longer : (t : Tree) (ts : List Tree) → length ts ≤ length (with_parts ts t)
longer t ts =
    let more = grows t ts in
    omega (arith, ap length more.1, length-append ts more.0)

-- it is not in the fresh table, where there is room for its ends and for itself
pub record IsFirst (ts : List Tree) (bit most : ℕ) (low high : Tree) : Type 0 where
  pub absent : has ts (branch bit low high) ≡ false
  pub room_for_low : length (with_parts ts low) ≤ most
  pub room_for_both : length (with_parts (with_parts ts low) high) < most

room_for_ends : (ts : List Tree) (bit most : ℕ) (low high : Tree) → has ts (branch bit low high) ≡ false → length (with_parts ts (branch bit low high)) ≤ most → IsFirst ts bit most low high
room_for_ends ts bit most low high absent room =
    let all = ap length (with_branch ts bit low high absent) in
    let one = length_push (with_parts (with_parts ts low) high) (branch bit low high) in
    let rest = longer high (with_parts ts low) in
    record { absent = absent; room_for_low = omega (arith, all, one, rest, room); room_for_both = omega (arith, all, one, room) }

pub first_visit : (source fresh : Table) (copies : List (Option ℕ)) (root place bit most : ℕ) (low high : Tree) (found : Option ℕ) → AreCopies source fresh copies → IsOf source root → diagram source root ≡ branch bit low high →
    length (with_parts (trees fresh.nodes) (diagram source root)) ≤ most → place ≡ root → found ≡ get_or copies place found → found ≡ None → IsFirst (trees fresh.nodes) bit most low high
first_visit source fresh copies root place bit most low high found are within built room is read none =
    let at : root < length copies = omega (arith, within, are.count) in
    let absent = are.missing root bit low high within (read_at copies root place found is at read ∙ none) built in
    room_for_ends (trees fresh.nodes) bit most low high absent (subst (λ t. length (with_parts (trees fresh.nodes) t) ≤ most) built room)

-- ---- the branch is added, since its table has no such tree
pub record IsAdded (old new : Table) (t : Tree) (d : ℕ) : Type 0 where
  pub table : IsTable new
  pub within : IsOf new d
  pub trees_are : trees new.nodes ≡ trees old.nodes ++ t ∷ []
  pub tree : diagram new d ≡ t

table_is : (old new : Table) (nodes : List Node) → new.bits ≡ old.bits → new.nodes ≡ nodes → new ≡ table_of old.bits nodes
table_is old new nodes bits are = ap₂ table_of bits are

not_there : (ts : List Tree) (t : Tree) → has ts t ≡ false → has ts t ≡ true → ⊥
not_there ts t absent there = let wrong : false ≡ true = sym absent ∙ there in absurd (cc)

pub added : (old new : Table) (bit low high d : ℕ) (t : Tree) → IsTable old → IsOf old low → IsOf old high → branch bit (diagram old low) (diagram old high) ≡ t → IsReduced 0 old.bits t → has (trees old.nodes) t ≡ false →
    new.bits ≡ old.bits → IsFoundOrAdded old new (node.Branch bit low high) d → IsAdded old new t d
added old new bit low high d t is low_within high_within tree reduced absent bits result =
    let n : Node = node.Branch bit low high in
    let none : (place : ℕ) → slice_get old.nodes place ≡ Some n → ⊥ = λ place there.
    not_there (trees old.nodes) t absent (diagram_there old place t (slice_get_within old.nodes place n there) (is.built place n there ∙ tree)) in
    elim result [
      | inl found ↦ absurd (none d found.1)
      | inr last ↦ (
          let trees_are : trees new.nodes ≡ trees old.nodes ++ t ∷ [] = ap trees last.0 ∙ trees_push old.nodes n ∙ ap (λ s. trees old.nodes ++ s ∷ []) tree in
          record {
            table = subst IsTable (sym (table_is old new (old.nodes ++ n ∷ []) bits last.0)) (table_grown old.bits old.nodes n is (low_within, high_within) none (subst (IsReduced 0 old.bits) (sym tree) reduced));
            within = omega (arith, last.1, ap length last.0, length_push old.nodes n);
            trees_are = trees_are;
            tree = ap (λ ts. tree_at ts d) trees_are ∙ get_or_push (trees old.nodes) t (leaf false) d (length_trees old.nodes ∙ sym last.1);
          })
    ]

-- what stands in the fresh tables before the ends are copied, after the first, after both, and after the branch
pub whole_copied : (source before first both after : Table) (copies : List (Option ℕ)) (root bit most low high low_copy high_copy copy : ℕ) → IsTable source → IsOf source root → AreCopies source both copies →
    diagram source root ≡ branch bit (diagram source low) (diagram source high) → IsFirst (trees before.nodes) bit most (diagram source low) (diagram source high) →
    trees first.nodes ≡ with_parts (trees before.nodes) (diagram source low) → IsOf first low_copy → diagram first low_copy ≡ diagram source low →
    trees both.nodes ≡ with_parts (trees first.nodes) (diagram source high) → Extends first both → IsOf both high_copy → diagram both high_copy ≡ diagram source high →
    Extends both after → IsFoundOrAdded both after (node.Branch bit low_copy high_copy) copy →
    IsAdded both after (diagram source root) copy × (trees after.nodes ≡ with_parts (trees before.nodes) (diagram source root))
whole_copied source before first both after copies root bit most low high low_copy high_copy copy is within are built visit first_trees low_within low_same both_trees kept high_within high_same grown result =
    let t : Tree = branch bit (diagram source low) (diagram source high) in
    let all : trees both.nodes ≡ with_parts (with_parts (trees before.nodes) (diagram source low)) (diagram source high) = both_trees ∙ ap (λ ts. with_parts ts (diagram source high)) first_trees in
    let none : has (trees both.nodes) t ≡ false = rw all (not_yet bit (diagram source low) (diagram source high) (trees before.nodes) visit.absent) in
    let reduced : IsReduced 0 both.bits (diagram source root) = subst (λ bits. IsReduced 0 bits (diagram source root)) (sym are.bits) (is.reduced root within) in
    let tree : branch bit (diagram both low_copy) (diagram both high_copy) ≡ diagram source root = ap₂ (branch bit) (kept.older low_copy low_within ∙ low_same) high_same ∙ sym built in
    let add : IsAdded both after (diagram source root) copy =
    added both after bit low_copy high_copy copy (diagram source root) are.table (omega (arith, low_within, kept.longer)) high_within tree reduced (ap (has (trees both.nodes)) built ∙ none) grown.bits result in
    (add, add.trees_are ∙ ap₂ (λ ts s. ts ++ s ∷ []) all built ∙ sym (with_branch (trees before.nodes) bit (diagram source low) (diagram source high) visit.absent) ∙ ap (with_parts (trees before.nodes)) (sym built))

-- ---- copies with one more
none_of_set : (copies : List (Option ℕ)) (at copy e : ℕ) → at < length copies → copy_at (set copies at (Some copy)) e ≡ None → (e ≡ at → ⊥) × (copy_at copies e ≡ None)
none_of_set copies at copy e within none = elim (cases_eq e at) [
  | inl is ↦ (
      let there = get_or-set_same copies at (Some copy) None within in
      let wrong : Some copy ≡ None = sym there ∙ ap (copy_at (set copies at (Some copy))) (sym is) ∙ none in
      absurd (cc))
  | inr other ↦ (other, sym (get_or-set_other copies at e (Some copy) None other) ∙ none)
]

some_of_set : (copies : List (Option ℕ)) (at copy e other : ℕ) → at < length copies → copy_at (set copies at (Some copy)) e ≡ Some other → ((e ≡ at) × (copy ≡ other)) ⊎ (copy_at copies e ≡ Some other)
some_of_set copies at copy e other within some = elim (cases_eq e at) [
  | inl is ↦ (
      let there = get_or-set_same copies at (Some copy) None within in
      let same : Some copy ≡ Some other = sym there ∙ ap (copy_at (set copies at (Some copy))) (sym is) ∙ some in
      inl (is, cc))
  | inr apart ↦ inr (sym (get_or-set_other copies at e (Some copy) None apart) ∙ some)
]

other_trees : (s t : Tree) → (s ≡ t → ⊥) → same_tree s t ≡ false
other_trees s t apart = by_test (same_tree s t) refl
  where
    by_test : (b : Bool) → same_tree s t ≡ b → same_tree s t ≡ false
    by_test true is = absurd (apart (same_trees_are_one s t is))
    by_test false is = is

pub one_more : (source old new : Table) (copies : List (Option ℕ)) (root copy : ℕ) → IsTable source → IsOf source root → AreCopies source old copies → Extends old new → IsAdded old new (diagram source root) copy →
    AreCopies source new (set copies root (Some copy))
one_more source old new copies root copy is within are grown add =
    let at : root < length copies = omega (arith, within, are.count) in
    record {
      table = add.table;
      bits = grown.bits ∙ are.bits;
      count = length-set copies root (Some copy) ∙ are.count;
      within = λ d other some. elim (some_of_set copies root copy d other at some) [
        | inl here ↦ subst (IsOf new) here.1 add.within
        | inr before ↦ (let older : IsOf old other = are.within d other before in omega (arith, older, grown.longer))
      ];
      same = λ d other some. elim (some_of_set copies root copy d other at some) [
        | inl here ↦ ap (diagram new) (sym here.1) ∙ add.tree ∙ ap (diagram source) (sym here.0)
        | inr before ↦ grown.older other (are.within d other before) ∙ are.same d other before
      ];
      missing = λ d bit low high d_within none built.
          let rest = none_of_set copies root copy d at none in
          let apart : same_tree (branch bit low high) (diagram source root) ≡ false =
          other_trees (branch bit low high) (diagram source root) (λ same. rest.0 (is.different d root d_within within (built ∙ same))) in
          let before = are.missing d bit low high d_within rest.1 built in
          subst (λ ts. has ts (branch bit low high) ≡ false) (sym add.trees_are) (not_last (trees old.nodes) (branch bit low high) (diagram source root) before apart);
    }

-- ---- the beginning, and the end
no_copy : (n d : ℕ) → copy_at (replicate n None) d ≡ None
no_copy zero d = refl
no_copy (suc n) zero = refl
no_copy (suc n) (suc d) = no_copy n d

pub two_trees : trees two_leaves ≡ leaf false ∷ leaf true ∷ []
unfolding trees
two_trees = refl

pub no_copies : (source : Table) (copies : List (Option ℕ)) → copies ≡ replicate (length source.nodes) None → AreCopies source (table_of source.bits two_leaves) copies
no_copies source copies all = rw all (record {
  table = first_table source.bits;
  bits = refl;
  count = length-replicate (length source.nodes) None;
  within = λ d copy some. (let wrong : None ≡ Some copy = sym (no_copy (length source.nodes) d) ∙ some in absurd (cc));
  same = λ d copy some. (let wrong : None ≡ Some copy = sym (no_copy (length source.nodes) d) ∙ some in absurd (cc));
  missing = λ d bit low high within none built. rw two_trees refl;
})

-- a table's nodes are those of its trees
node_of_tree : (table : Table) (place : ℕ) (n : Node) → IsTable table → place ≤ length table.nodes → AreEndsBefore place n → node_over (trees table.nodes) (node_tree (trees table.nodes) n) ≡ n
node_of_tree table place (node.Leaf constant) is within ends = refl
node_of_tree table place (node.Branch bit low high) is within ends =
    ap₂ (node.Branch bit) (at low (omega (arith, within, ends.0))) (at high (omega (arith, within, ends.1)))
  where
    at : (d : ℕ) → IsOf table d → place_in (trees table.nodes) (diagram table d) ≡ d
    at d d_within =
        let place = stands (trees table.nodes) (diagram table d) (diagram_there table d (diagram table d) d_within refl) in
        is.different (place_in (trees table.nodes) (diagram table d)) d (omega (arith, place.0, length_trees table.nodes)) d_within place.1

pub nodes_of_trees : (table : Table) → IsTable table → table.nodes ≡ map (node_over (trees table.nodes)) (trees table.nodes)
nodes_of_trees table is =
    let ts : List Tree = trees table.nodes in
    let long : length ts ≡ length table.nodes = length_trees table.nodes in
    ext_get_or (node.Leaf false) table.nodes (map (node_over ts) ts) (omega (arith, long, length-map ts (node_over ts)))
    (λ place within.
    let n : Node = get_or table.nodes place (node.Leaf false) in
    let some : slice_get table.nodes place ≡ Some n = slice_get-get_or table.nodes place (node.Leaf false) within in
    sym (get_or-map (node_over ts) ts place (leaf false) (node.Leaf false) (omega (arith, within, long))
    ∙ ap (node_over ts) (is.built place n some)
    ∙ node_of_tree table place n is (omega (arith, within)) (is.ends place n some)))

pub alone_is : (table : Table) (bits : ℕ) (t : Tree) → IsTable table → table.bits ≡ bits → trees table.nodes ≡ with_parts (trees two_leaves) t → table ≡ table_of bits (listing t)
alone_is table bits t is over are =
    let all : trees table.nodes ≡ parts t = are ∙ ap (λ ts. with_parts ts t) two_trees in
    ap₂ table_of over (nodes_of_trees table is ∙ ap (λ ts. map (node_over ts) ts) all)

pub place_alone : (table : Table) (t : Tree) (d : ℕ) → IsTable table → trees table.nodes ≡ with_parts (trees two_leaves) t → IsOf table d → diagram table d ≡ t → d ≡ root_of t
place_alone table t d is are within same =
    let all : trees table.nodes ≡ parts t = are ∙ ap (λ ts. with_parts ts t) two_trees in
    let place = stands (trees table.nodes) t (diagram_there table d t within same) in
    is.different d (place_in (trees table.nodes) t) within (omega (arith, place.0, length_trees table.nodes)) (same ∙ sym place.1)
    ∙ ap (λ ts. place_in ts t) all

-- The parts of a tree, put behind those of others: each once, its ends before it.
use Rattle.std.proofs.Common.{◌≡◌, ℕ, ◌<◌, ◌+◌, ◌==◌, suc, Bool, true, false, ◌&&◌, ◌||◌, not, if◌then◌else◌, List, [], ◌∷◌, ◌++◌, length, refl, sym, ap, subst, ◌∙◌, arith}
use Rattle.std.specs.Bool.{beq}
use Rattle.std.specs.List.{list_any}
use Rattle.std.proofs.lemmas.Bool.Decides.{nat_tests}
use Rattle.std.proofs.lemmas.List.{append-nil, append_assoc}
use Rattle.std.proofs.lemmas.List.Folds.{list_any-append, list_any_at}
use Rattle.decision_diagram.specs.Tree.{Tree, leaf, branch}
use Rattle.decision_diagram.specs.Table.{tree_at}
use Rattle.decision_diagram.specs.Listing.{same_tree, with_parts, place_in}

-- whether a tree is among these
abbrev pub has : List Tree → Tree → Bool
has trees t = list_any (same_tree t) trees

-- ---- equality of trees
and_parts : (a b : Bool) → (a && b) ≡ true → (a ≡ true) × (b ≡ true)
and_parts true true h = (refl, refl)
and_parts true false h = absurd (cc)
and_parts false b h = absurd (cc)

same_constant : (a b : Bool) → beq a b ≡ true → a ≡ b
same_constant true true h = refl
same_constant true false h = absurd (cc)
same_constant false true h = absurd (cc)
same_constant false false h = refl

pub same_trees_are_one : (a b : Tree) → same_tree a b ≡ true → a ≡ b
same_trees_are_one (leaf a) (leaf b) h = ap leaf (same_constant a b h)
same_trees_are_one (leaf a) (branch bit low high) h = absurd (cc)
same_trees_are_one (branch bit low high) (leaf b) h = absurd (cc)
same_trees_are_one (branch bit low high) (branch other a b) h =
    let first = and_parts (bit == other) (same_tree low a && same_tree high b) h in
    let ends = and_parts (same_tree low a) (same_tree high b) first.1 in
    let bits : bit ≡ other = grind (arith, nat_tests, first.0) in
    let lows = same_trees_are_one low a ends.0 in
    let highs = same_trees_are_one high b ends.1 in
    (cc)

pub same_itself : (t : Tree) → same_tree t t ≡ true
same_itself (leaf true) = refl
same_itself (leaf false) = refl
same_itself (branch bit low high) =
    let bits : (bit == bit) ≡ true = grind (arith, nat_tests) in
    rw (bits, same_itself low, same_itself high) refl

pub is_or_is_not : (a b : Tree) → (same_tree a b ≡ false → a ≡ b → ⊥)
is_or_is_not a b apart e =
    let itself : same_tree a b ≡ true = subst (λ t. same_tree a t ≡ true) e (same_itself a) in
    let wrong : false ≡ true = sym apart ∙ itself in
    absurd (cc)

-- ---- places
or_false : (a b : Bool) → (a || b) ≡ false → (a ≡ false) × (b ≡ false)
or_false true b h = absurd (cc)
or_false false true h = absurd (cc)
or_false false false h = (refl, refl)

-- a tree that is among others stands at its place
stands_step : (first : Tree) (trees : List Tree) (t : Tree) (b : Bool) → same_tree t first ≡ b → (has trees t ≡ true → (place_in trees t < length trees) × (tree_at trees (place_in trees t) ≡ t))
    → has (first ∷ trees) t ≡ true → (place_in (first ∷ trees) t < length (first ∷ trees)) × (tree_at (first ∷ trees) (place_in (first ∷ trees) t) ≡ t)
stands_step first trees t true is rest h = rw is (omega arith, sym (same_trees_are_one t first is))
stands_step first trees t false is rest h =
    let behind = rest (rw is at h) in
    let next : 1 + place_in trees t ≡ suc (place_in trees t) = omega arith in
    rw is (omega (arith, behind.0), ap (tree_at (first ∷ trees)) next ∙ behind.1)

pub stands : (trees : List Tree) (t : Tree) → has trees t ≡ true → (place_in trees t < length trees) × (tree_at trees (place_in trees t) ≡ t)
stands [] t h = absurd (cc)
stands (first ∷ trees) t h = stands_step first trees t (same_tree t first) refl (stands trees t) h

there_step : (first : Tree) (trees : List Tree) (t : Tree) (b : Bool) → same_tree t first ≡ b → (place_in trees t < length trees → has trees t ≡ true)
    → place_in (first ∷ trees) t < length (first ∷ trees) → has (first ∷ trees) t ≡ true
there_step first trees t true is rest h = rw is refl
there_step first trees t false is rest h =
    let behind : 1 + place_in trees t < suc (length trees) = rw is at h in
    rw is (rest (omega arith))

pub is_there : (trees : List Tree) (t : Tree) → place_in trees t < length trees → has trees t ≡ true
is_there [] t h = absurd (omega arith)
is_there (first ∷ trees) t h = there_step first trees t (same_tree t first) refl (is_there trees t) h

pub stands_at : (trees : List Tree) (t : Tree) (place : ℕ) → place < length trees → tree_at trees place ≡ t → has trees t ≡ true
stands_at trees t place within is = list_any_at (same_tree t) trees place (leaf false) within (subst (λ s. same_tree t s ≡ true) (sym is) (same_itself t))

-- more trees behind them do not change it
place_step : (first : Tree) (trees more : List Tree) (t : Tree) (b : Bool) → same_tree t first ≡ b → (has trees t ≡ true → place_in (trees ++ more) t ≡ place_in trees t)
    → has (first ∷ trees) t ≡ true → place_in (first ∷ trees ++ more) t ≡ place_in (first ∷ trees) t
place_step first trees more t true is rest h = rw is refl
place_step first trees more t false is rest h = rw is (ap (λ n. 1 + n) (rest (rw is at h)))

pub same_place : (trees more : List Tree) (t : Tree) → has trees t ≡ true → place_in (trees ++ more) t ≡ place_in trees t
same_place [] more t h = absurd (cc)
same_place (first ∷ trees) more t h = place_step first trees more t (same_tree t first) refl (same_place trees more t) h

or_left : (a b : Bool) → a ≡ true → (a || b) ≡ true
or_left true b h = refl
or_left false b h = absurd (cc)

or_right : (a b : Bool) → b ≡ true → (a || b) ≡ true
or_right true b h = refl
or_right false true h = refl
or_right false false h = absurd (cc)

pub has_more : (trees more : List Tree) (t : Tree) → has trees t ≡ true → has (trees ++ more) t ≡ true
has_more trees more t h = list_any-append (same_tree t) trees more ∙ or_left (has trees t) (has more t) h

pub has_last : (trees : List Tree) (t : Tree) → has (trees ++ t ∷ []) t ≡ true
has_last trees t = list_any-append (same_tree t) trees (t ∷ []) ∙ or_right (has trees t) (has (t ∷ []) t) (or_left (same_tree t t) false (same_itself t))

-- ---- the parts of a tree behind others
pub if_case : {X : Type 0} (P : X → Type 0) (b : Bool) (x y : X) → (b ≡ true → P x) → (b ≡ false → P y) → P (if b then x else y)
if_case P true x y is not = is refl
if_case P false x y is not = not refl

pub grows : (t : Tree) (trees : List Tree) → (more : List Tree) × (with_parts trees t ≡ trees ++ more)
grows (leaf constant) trees = if_case (λ now. (more : List Tree) × (now ≡ trees ++ more)) (has trees (leaf constant)) trees (trees ++ leaf constant ∷ [])
    (λ there. ([], sym (append-nil trees)))
    (λ new. (leaf constant ∷ [], refl))
grows (branch bit low high) trees =
    let first = grows low trees in
    let second = grows high (with_parts trees low) in
    if_case (λ now. (more : List Tree) × (now ≡ trees ++ more)) (has trees (branch bit low high)) trees (with_parts (with_parts trees low) high ++ branch bit low high ∷ [])
    (λ there. ([], sym (append-nil trees)))
    (λ new. (
      first.0 ++ second.0 ++ branch bit low high ∷ [],
      ap (λ ts. ts ++ branch bit low high ∷ []) (second.1 ∙ ap (λ ts. ts ++ second.0) first.1 ∙ append_assoc trees first.0 second.0) ∙ append_assoc trees (first.0 ++ second.0) (branch bit low high ∷ []),
    ))

pub has_still : (t s : Tree) (trees : List Tree) → has trees s ≡ true → has (with_parts trees t) s ≡ true
has_still t s trees h =
    let more = grows t trees in
    subst (λ ts. has ts s ≡ true) (sym more.1) (has_more trees more.0 s h)

pub has_whole : (t : Tree) (trees : List Tree) → has (with_parts trees t) t ≡ true
has_whole (leaf constant) trees = if_case (λ now. has now (leaf constant) ≡ true) (has trees (leaf constant)) trees (trees ++ leaf constant ∷ [])
    (λ there. there) (λ new. has_last trees (leaf constant))
has_whole (branch bit low high) trees =
    if_case (λ now. has now (branch bit low high) ≡ true) (has trees (branch bit low high)) trees (with_parts (with_parts trees low) high ++ branch bit low high ∷ [])
    (λ there. there) (λ new. has_last (with_parts (with_parts trees low) high) (branch bit low high))

-- a tree that is there has its parts there
pub nothing_new : (t : Tree) (trees : List Tree) → has trees t ≡ true → with_parts trees t ≡ trees
nothing_new (leaf constant) trees h = rw h refl
nothing_new (branch bit low high) trees h = rw h refl

-- how many branches a tree has, each counted as often as it is reached
abbrev pub weight : Tree → ℕ
weight (leaf constant) = 0
weight (branch bit low high) = 1 + weight low + weight high

heavier_is_other : (s t : Tree) → weight t < weight s → same_tree s t ≡ false
heavier_is_other s t less = by_test (same_tree s t) refl
  where
    by_test : (b : Bool) → same_tree s t ≡ b → same_tree s t ≡ false
    by_test true is = let e : weight s ≡ weight t = ap weight (same_trees_are_one s t is) in absurd (omega arith)
    by_test false is = is

pub not_last : (trees : List Tree) (s t : Tree) → has trees s ≡ false → same_tree s t ≡ false → has (trees ++ t ∷ []) s ≡ false
not_last trees s t absent other = list_any-append (same_tree s) trees (t ∷ []) ∙ rw (absent, other) refl

-- no part of a tree is heavier than it
pub no_heavier : (t s : Tree) (trees : List Tree) → weight t < weight s → has trees s ≡ false → has (with_parts trees t) s ≡ false
no_heavier (leaf constant) s trees less absent = if_case (λ now. has now s ≡ false) (has trees (leaf constant)) trees (trees ++ leaf constant ∷ [])
    (λ there. absent) (λ new. not_last trees s (leaf constant) absent (heavier_is_other s (leaf constant) less))
no_heavier (branch bit low high) s trees less absent =
    let first = no_heavier low s trees (omega arith) absent in
    let second = no_heavier high s (with_parts trees low) (omega arith) first in
    if_case (λ now. has now s ≡ false) (has trees (branch bit low high)) trees (with_parts (with_parts trees low) high ++ branch bit low high ∷ [])
    (λ there. absent) (λ new. not_last (with_parts (with_parts trees low) high) s (branch bit low high) second (heavier_is_other s (branch bit low high) less))

-- a branch is not among the parts of its ends
pub not_yet : (bit : ℕ) (low high : Tree) (trees : List Tree) → has trees (branch bit low high) ≡ false → has (with_parts (with_parts trees low) high) (branch bit low high) ≡ false
not_yet bit low high trees absent =
    no_heavier high (branch bit low high) (with_parts trees low) (omega arith) (no_heavier low (branch bit low high) trees (omega arith) absent)

-- ---- what holds of trees to which one with its ends there can be added holds of all parts of a tree
abbrev pub HasEnds : List Tree → Tree → Type 0
HasEnds trees (leaf constant) = Unit {0}
HasEnds trees (branch bit low high) = (has trees low ≡ true) × (has trees high ≡ true)

pub by_parts : (P : List Tree → Type 0) (Q : Tree → Type 0)
    → ((trees : List Tree) (t : Tree) → P trees → Q t → has trees t ≡ false → HasEnds trees t → P (trees ++ t ∷ []))
    → ((bit : ℕ) (low high : Tree) → Q (branch bit low high) → Q low × Q high)
    → (t : Tree) (trees : List Tree) → Q t → P trees → P (with_parts trees t)
by_parts P Q step ends (leaf constant) trees q p = if_case P (has trees (leaf constant)) trees (trees ++ leaf constant ∷ [])
    (λ there. p) (λ new. step trees (leaf constant) p q new tt)
by_parts P Q step ends (branch bit low high) trees q p =
    let both = ends bit low high q in
    let first = by_parts P Q step ends low trees both.0 p in
    let second = by_parts P Q step ends high (with_parts trees low) both.1 first in
    if_case P (has trees (branch bit low high)) trees (with_parts (with_parts trees low) high ++ branch bit low high ∷ [])
    (λ there. p)
    (λ new. step (with_parts (with_parts trees low) high) (branch bit low high) second q (not_yet bit low high trees new)
    (has_still high low (with_parts trees low) (has_whole low trees), has_whole high (with_parts trees low)))

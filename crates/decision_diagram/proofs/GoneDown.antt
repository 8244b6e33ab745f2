-- Two diagrams gone down at once: what is met behind a pair, and that what was met is all there is.
use Rattle.std.proofs.Common.{◌≡◌, ◌⊎◌, ℕ, ◌<◌, ◌≤◌, ◌+◌, ◌&&◌, Bool, true, false, List, [], ◌∷◌, ◌++◌, length, map, Some, get_or, nat_lt, if◌then◌else◌, refl, sym, ap, ap₂, subst, ◌∙◌, inl, inr, arith}
use Rattle.std.specs.List.{Contains, IsDistinct, slice_get, list_any}
use Rattle.std.proofs.lemmas.Bool.Decides.{nat_tests}
use Rattle.std.proofs.lemmas.Bool.{cases_lt}
use Rattle.std.proofs.lemmas.List.{get_or_default, get_or-map, get_or_append_left, get_or_push, length-map, length_push}
use Rattle.std.proofs.lemmas.List.Folds.{Any-from_list_any}
use Rattle.std.proofs.lemmas.Option.{slice_get_within, slice_get-get_or, get_or_from_slice_get}
use Rattle.std.proofs.lemmas.Map.Made.{AllPairs-from_IsDistinct}
use Rattle.std.specs.Bool.{Decides}
use Rattle.indexmap.specs.IndexSet.{insert_key}
use Rattle.decision_diagram.specs.contracts.node.DiagramPartialEq.TheImpl.{eq-value}
use Rattle.decision_diagram.specs.Tree.{Tree, leaf, branch, IsReduced}
use Rattle.decision_diagram.specs.Table.{Table, IsOf, IsTable, diagram}
use Rattle.decision_diagram.specs.Meeting.{LooksFirst, Meet, MeetOften, MeetSeldom, behind, left_at, roots}
use Rattle.decision_diagram.specs.Inside.Choice.{AreEnds, first_of}
use Rattle.decision_diagram.specs.Inside.Meeting.{AreBehind, AreGoneDown, AreMet, IsKept, IsThere, StaysMet}
use Rattle.decision_diagram.proofs.Growing.{by_place}

-- ---- a pair that is put into a set
abbrev IsPut : List (ℕ × ℕ) → List (ℕ × ℕ) → ℕ × ℕ → Type 0
IsPut old new pair = IsKept old new × IsThere new pair × ((place : ℕ) (other : ℕ × ℕ) → slice_get new place ≡ Some other → (slice_get old place ≡ Some other) ⊎ (other ≡ pair))

kept_behind : (pairs : List (ℕ × ℕ)) (pair : ℕ × ℕ) → IsKept pairs (pairs ++ pair ∷ [])
kept_behind pairs pair place other there =
    let within = slice_get_within pairs place other there in
    slice_get-get_or (pairs ++ pair ∷ []) place other (omega (arith, within, length_push pairs pair))
    ∙ ap Some (get_or_append_left pairs (pair ∷ []) other place within ∙ get_or_from_slice_get pairs place other other there)

there_last : (pairs : List (ℕ × ℕ)) (pair : ℕ × ℕ) → IsThere (pairs ++ pair ∷ []) pair
there_last pairs pair = (length pairs, slice_get-get_or (pairs ++ pair ∷ []) (length pairs) pair (omega (arith, length_push pairs pair)) ∙ ap Some (get_or_push pairs pair pair (length pairs) refl))

-- the set's test of equal pairs
abbrev pub same_pair : ℕ × ℕ → ℕ × ℕ → Bool
same_pair x y = (eq-value).it x.0 y.0 && (eq-value).it x.1 y.1

pairs_equal : (x y : ℕ × ℕ) → same_pair x y ≡ true → x ≡ y
pairs_equal x y test = grind (arith, nat_tests, test)

pair_test : (x y : ℕ × ℕ) → Decides (same_pair x y) (x ≡ y)
pair_test x y = (pairs_equal x y, λ same. subst (λ z. same_pair x z ≡ true) same (grind (arith, nat_tests)))

pub put_in : (old new : List (ℕ × ℕ)) (pair : ℕ × ℕ) → new ≡ insert_key same_pair old pair → IsPut old new pair
put_in old new pair keys = by_test (list_any (same_pair pair) old) refl
  where
    by_test : (b : Bool) → list_any (same_pair pair) old ≡ b → IsPut old new pair
    by_test true any =
        let stays : new ≡ old = keys ∙ ap (λ t. if t then old else old ++ pair ∷ []) any in
        let at = Any-from_list_any (same_pair pair) old any in
        let there : slice_get old at.0 ≡ Some pair = slice_get-get_or old at.0 at.1 at.2 ∙ ap Some (at.3 ∙ sym (pairs_equal pair at.1 at.4)) in
        rw stays ((λ place other was. was), (at.0, there), (λ place other was. inl was))
    by_test false none =
        let longer : new ≡ old ++ pair ∷ [] = keys ∙ ap (λ t. if t then old else old ++ pair ∷ []) none in
        rw longer (
          kept_behind old pair,
          there_last old pair,
          (λ place other there. elim (by_place old pair place other there) [
            | inl before ↦ inl before
            | inr last ↦ inr last.1
          ]),
        )

-- ---- the first bit of two trees
abbrev AreDone : Tree → Tree → Type 0
AreDone c d = ((bit : ℕ) (value : Bool) → (left_at bit value c ≡ c) × (left_at bit value d ≡ d)) × ((bit : ℕ) → LooksFirst c d bit → ⊥)

first_or_done : (count bit : ℕ) (c d : Tree) → bit ≡ (if nat_lt (first_of count c) (first_of count d) then first_of count c else first_of count d) → IsReduced 0 count c → IsReduced 0 count d → AreDone c d ⊎ LooksFirst c d bit
first_or_done count bit (leaf x) (leaf y) is c_reduced d_reduced = inl ((λ other value. (refl, refl)), (λ other looks. looks))
first_or_done count bit (leaf x) (branch first low high) is c_reduced d_reduced = inr (grind (arith, nat_tests, is, d_reduced.1))
first_or_done count bit (branch first low high) (leaf y) is c_reduced d_reduced = inr (grind (arith, nat_tests, is, c_reduced.1))
first_or_done count bit (branch one low high) (branch other a b) is c_reduced d_reduced = inr is

first_is_one : (c d : Tree) (one other : ℕ) → LooksFirst c d one → LooksFirst c d other → one ≡ other
first_is_one (leaf x) (leaf y) one other by_one by_other = absurd by_one
first_is_one (leaf x) (branch first low high) one other by_one by_other = by_one ∙ sym by_other
first_is_one (branch first low high) (leaf y) one other by_one by_other = by_one ∙ sym by_other
first_is_one (branch first low high) (branch second a b) one other by_one by_other = by_one ∙ sym by_other

-- ---- what is met behind a pair
-- both ends of both diagrams were put in
pub record AreEndsIn (table : Table) (bit a b : ℕ) (old new : List (ℕ × ℕ)) : Type 0 where
  pub first : bit ≡ (if nat_lt (first_of table.bits (diagram table a)) (first_of table.bits (diagram table b)) then first_of table.bits (diagram table a) else first_of table.bits (diagram table b))
  pub a_reduced : IsReduced 0 table.bits (diagram table a)
  pub b_reduced : IsReduced 0 table.bits (diagram table b)
  pub a_low : ℕ
  pub a_high : ℕ
  pub b_low : ℕ
  pub b_high : ℕ
  pub a_ends : AreEnds table bit a a_low a_high
  pub b_ends : AreEnds table bit b b_low b_high
  pub between : List (ℕ × ℕ)
  pub low_put : IsPut old between (a_low, b_low)
  pub high_put : IsPut between new (a_high, b_high)

pub kept_by_both : (table : Table) (bit a b : ℕ) (old new : List (ℕ × ℕ)) → AreEndsIn table bit a b old new → IsKept old new
kept_by_both table bit a b old new ends place pair there = ends.high_put.0 place pair (ends.low_put.0 place pair there)

left_met : (one other c d : Tree) (bit : ℕ) (value : Bool) → AreDone c d ⊎ LooksFirst c d bit → Meet one other c d → Meet one other (left_at bit value c) (left_at bit value d)
left_met one other c d bit value how met = elim how [
  | inl done ↦ rw ((done.0 bit value).0, (done.0 bit value).1) met
  | inr looks ↦ behind c d bit value met looks
]

met_by_put : (table : Table) (one other : Tree) (old new : List (ℕ × ℕ)) (pair : ℕ × ℕ) → IsPut old new pair → AreMet table one other old →
    IsOf table pair.0 × IsOf table pair.1 × Meet one other (diagram table pair.0) (diagram table pair.1) → AreMet table one other new
met_by_put table one other old new pair put before meets place some there = elim (put.2 place some there) [
  | inl was ↦ before place some was
  | inr is ↦ subst (λ (p : ℕ × ℕ). IsOf table p.0 × IsOf table p.1 × Meet one other (diagram table p.0) (diagram table p.1)) (sym is) meets
]

pub met_behind : (table : Table) (bit a b : ℕ) (old new : List (ℕ × ℕ)) → AreEndsIn table bit a b old new → StaysMet table a b old new
met_behind table bit a b old new ends one other met before =
    let how = first_or_done table.bits bit (diagram table a) (diagram table b) ends.first ends.a_reduced ends.b_reduced in
    let low : Meet one other (diagram table ends.a_low) (diagram table ends.b_low) =
    rw (ends.a_ends.low_left, ends.b_ends.low_left) (left_met one other (diagram table a) (diagram table b) bit false how met) in
    let high : Meet one other (diagram table ends.a_high) (diagram table ends.b_high) =
    rw (ends.a_ends.high_left, ends.b_ends.high_left) (left_met one other (diagram table a) (diagram table b) bit true how met) in
    met_by_put table one other ends.between new (ends.a_high, ends.b_high) ends.high_put
    (met_by_put table one other old ends.between (ends.a_low, ends.b_low) ends.low_put before (ends.a_ends.low_within, ends.b_ends.low_within, low))
    (ends.a_ends.high_within, ends.b_ends.high_within, high)

all_behind : (table : Table) (bit a b : ℕ) (old new : List (ℕ × ℕ)) → AreEndsIn table bit a b old new → (value : Bool) →
    (pair : ℕ × ℕ) × IsThere new pair × (diagram table pair.0 ≡ left_at bit value (diagram table a)) × (diagram table pair.1 ≡ left_at bit value (diagram table b))
all_behind table bit a b old new ends true = ((ends.a_high, ends.b_high), ends.high_put.1, ends.a_ends.high_left, ends.b_ends.high_left)
all_behind table bit a b old new ends false =
    let there = ends.low_put.1 in
    ((ends.a_low, ends.b_low), (there.0, ends.high_put.0 there.0 (ends.a_low, ends.b_low) there.1), ends.a_ends.low_left, ends.b_ends.low_left)

pub ends_behind : (table : Table) (bit a b : ℕ) (old new : List (ℕ × ℕ)) → AreEndsIn table bit a b old new → AreBehind table new a b
ends_behind table bit a b old new ends other value looks = elim (first_or_done table.bits bit (diagram table a) (diagram table b) ends.first ends.a_reduced ends.b_reduced) [
  | inl done ↦ absurd (done.1 other looks)
  | inr first ↦ (
      let is : other ≡ bit = first_is_one (diagram table a) (diagram table b) other bit looks first in
      rw is (all_behind table bit a b old new ends value))
]

-- ---- the pairs so far
behind_kept : (table : Table) (old new : List (ℕ × ℕ)) (c d : ℕ) → IsKept old new → AreBehind table old c d → AreBehind table new c d
behind_kept table old new c d kept before bit value looks =
    let there = before bit value looks in
    (there.0, (there.1.0, kept there.1.0 there.0 there.1.1), there.2, there.3)

pub none_gone_down : (table : Table) (a b : ℕ) (empty pairs : List (ℕ × ℕ)) → IsOf table a → IsOf table b → empty ≡ [] → pairs ≡ insert_key same_pair empty (a, b) → AreGoneDown table a b 0 pairs
none_gone_down table a b empty pairs a_within b_within none keys =
    let put : IsPut [] pairs (a, b) = put_in [] pairs (a, b) (keys ∙ ap (λ ks. insert_key same_pair ks (a, b)) none) in
    record {
      met = met_by_put table (diagram table a) (diagram table b) [] pairs (a, b) put (λ place pair there. cc) (a_within, b_within, roots);
      first = put.1;
      followed = λ place pair before there. absurd (omega (arith, before));
    }

pub one_more_gone_down : (table : Table) (a b c d next : ℕ) (old new : List (ℕ × ℕ)) → AreGoneDown table a b next old → slice_get old next ≡ Some (c, d) →
    StaysMet table c d old new → AreBehind table new c d → IsKept old new → AreGoneDown table a b (next + 1) new
one_more_gone_down table a b c d next old new down at stays behind_it kept = record {
  met = stays (diagram table a) (diagram table b) (down.met next (c, d) at).2 down.met;
  first = (down.first.0, kept down.first.0 (a, b) down.first.1);
  followed = λ place pair before there. (
      let within = slice_get_within old next (c, d) at in
      let other : ℕ × ℕ = get_or old place pair in
      let was : slice_get old place ≡ Some other = slice_get-get_or old place pair (omega (arith, before, within)) in
      let is : Some other ≡ Some pair = sym (kept place other was) ∙ there in
      let same : other ≡ pair = cc in
      elim (cases_lt place next) [
        | inl lt ↦ behind_kept table old new pair.0 pair.1 kept (down.followed place pair lt (was ∙ is))
        | inr ge ↦ (
            let last : place ≡ next = omega (arith, ge, before) in
            let pair_is : Some (c, d) ≡ Some pair = sym at ∙ ap (slice_get old) (sym last) ∙ was ∙ is in
            let pair_same : (c, d) ≡ pair = cc in
            subst (λ (p : ℕ × ℕ). AreBehind table new p.0 p.1) pair_same behind_it)
      ]);
}

-- the pair that is read at a place, each half by itself
pub taken : (pairs read : List (ℕ × ℕ)) (next : ℕ) (one two : ℕ × ℕ) → read ≡ pairs → next < length pairs → slice_get pairs next ≡ Some ((get_or read next one).0, (get_or read next two).1)
taken pairs read next one two is within =
    let same : get_or pairs next one ≡ get_or pairs next two = get_or_default pairs next one two within in
    rw is (slice_get-get_or pairs next one within ∙ ap (λ (d : ℕ × ℕ). Some ((get_or pairs next one).0, d.1)) same)

-- ---- what was met is all there is
abbrev trees_of : Table → ℕ × ℕ → Tree × Tree
trees_of table pair = (diagram table pair.0, diagram table pair.1)

abbrev IsMetAt : Table → List (ℕ × ℕ) → Tree → Tree → Type 0
IsMetAt table pairs c d = (pair : ℕ × ℕ) × IsThere pairs pair × (diagram table pair.0 ≡ c) × (diagram table pair.1 ≡ d)

all_met : (table : Table) (a b next : ℕ) (pairs : List (ℕ × ℕ)) (c d : Tree) → AreGoneDown table a b next pairs → length pairs ≤ next → Meet (diagram table a) (diagram table b) c d → IsMetAt table pairs c d
all_met table a b next pairs c d down all roots = ((a, b), down.first, refl, refl)
all_met table a b next pairs x y down all (behind c d bit value met looks) =
    let at = all_met table a b next pairs c d down all met in
    let before = slice_get_within pairs at.1.0 at.0 at.1.1 in
    let looks_there : LooksFirst (diagram table at.0.0) (diagram table at.0.1) bit = rw (at.2, at.3) looks in
    let next_at = down.followed at.1.0 at.0 (omega (arith, before, all)) at.1.1 bit value looks_there in
    (next_at.0, next_at.1, next_at.2 ∙ ap (left_at bit value) at.2, next_at.3 ∙ ap (left_at bit value) at.3)

in_trees : (table : Table) (pairs : List (ℕ × ℕ)) (c d : Tree) → IsMetAt table pairs c d → Contains (map (trees_of table) pairs) (c, d)
in_trees table pairs c d at =
    let within = slice_get_within pairs at.1.0 at.0 at.1.1 in
    let is : trees_of table at.0 ≡ (c, d) = ap₂ (λ x y. (x, y)) at.2 at.3 in (
      at.1.0,
      omega (arith, within, length-map pairs (trees_of table)),
      get_or-map (trees_of table) pairs at.1.0 at.0 (c, d) within ∙ ap (trees_of table) (get_or_from_slice_get pairs at.1.0 at.0 at.0 at.1.1) ∙ is,
    )

pub seldom : (table : Table) (a b next most : ℕ) (pairs : List (ℕ × ℕ)) → AreGoneDown table a b next pairs → length pairs ≤ next → next ≤ most → MeetSeldom most (diagram table a) (diagram table b)
seldom table a b next most pairs down all few = record {
  pairs = map (trees_of table) pairs;
  few = omega (arith, all, few, length-map pairs (trees_of table));
  all = λ c d met. in_trees table pairs c d (all_met table a b next pairs c d down all met);
}

-- ---- pairs that differ have trees that differ
apart : (table : Table) (one other : Tree) (pairs : List (ℕ × ℕ)) (i j : ℕ) (pair : ℕ × ℕ) → IsTable table → AreMet table one other pairs → IsDistinct same_pair pairs → i < j → j < length pairs →
    trees_of table (get_or pairs i pair) ≡ trees_of table (get_or pairs j pair) → ⊥
apart table one other pairs i j pair is met distinct before within same =
    let i_at = met i (get_or pairs i pair) (slice_get-get_or pairs i pair (omega (arith, before, within))) in
    let j_at = met j (get_or pairs j pair) (slice_get-get_or pairs j pair within) in
    let firsts = is.different (get_or pairs i pair).0 (get_or pairs j pair).0 i_at.0 j_at.0 (ap (λ t. t.0) same) in
    let seconds = is.different (get_or pairs i pair).1 (get_or pairs j pair).1 i_at.1 j_at.1 (ap (λ t. t.1) same) in
    AllPairs-from_IsDistinct pair_test pairs distinct i j pair before within (ap₂ (λ x y. (x, y)) firsts seconds)

pub often : (table : Table) (a b next most : ℕ) (pairs : List (ℕ × ℕ)) → IsTable table → AreGoneDown table a b next pairs → IsDistinct same_pair pairs → most < length pairs → MeetOften most (diagram table a) (diagram table b)
often table a b next most pairs is down distinct many = record {
  pairs = map (trees_of table) pairs;
  many = omega (arith, many, length-map pairs (trees_of table));
  met = λ place d within.
      let inside : place < length pairs = omega (arith, within, length-map pairs (trees_of table)) in
      subst (λ (t : Tree × Tree). Meet (diagram table a) (diagram table b) t.0 t.1) (sym (get_or-map (trees_of table) pairs place (a, b) d inside))
      (down.met place (get_or pairs place (a, b)) (slice_get-get_or pairs place (a, b) inside)).2;
  different = λ i j pair at_i at_j. (
      let i_within : i < length pairs = omega (arith, slice_get_within (map (trees_of table) pairs) i pair at_i, length-map pairs (trees_of table)) in
      let j_within : j < length pairs = omega (arith, slice_get_within (map (trees_of table) pairs) j pair at_j, length-map pairs (trees_of table)) in
      let i_is : trees_of table (get_or pairs i (a, b)) ≡ pair = sym (get_or-map (trees_of table) pairs i (a, b) pair i_within) ∙ get_or_from_slice_get (map (trees_of table) pairs) i pair pair at_i in
      let j_is : trees_of table (get_or pairs j (a, b)) ≡ pair = sym (get_or-map (trees_of table) pairs j (a, b) pair j_within) ∙ get_or_from_slice_get (map (trees_of table) pairs) j pair pair at_j in
      elim (cases_lt i j) [
        | inl lt ↦ absurd (apart table (diagram table a) (diagram table b) pairs i j (a, b) is down.met distinct lt j_within (i_is ∙ sym j_is))
        | inr ge ↦ elim (cases_lt j i) [
          | inl gt ↦ absurd (apart table (diagram table a) (diagram table b) pairs j i (a, b) is down.met distinct gt i_within (j_is ∙ sym i_is))
          | inr le ↦ omega (arith, ge, le)
        ]
      ]);
}

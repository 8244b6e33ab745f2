-- A node's value depends on the inputs from which it is made, and on no others.
use Rattle.std.proofs.Common.{◌≡◌, ℕ, ◌+◌, ◌<◌, ◌≤◌, zero, suc, Bool, true, false, Option, Some, None, is_none, not, List, [], ◌∷◌, ◌++◌, length, get_or, take, drop, set, replicate, if◌then◌else◌, refl, sym, ap, ap₂, subst, ◌∙◌, inl, inr, arith}
use Rattle.std.specs.List.{AllByRecursion}
use Rattle.std.proofs.lemmas.List.{length_push, get_or_append_left, get_or_push, get_or_past, get_or_read, append-nil, drop_all, take_all, length-take-le, length-set, get_or-set_same, get_or-set_other, length-replicate}
use Rattle.std.proofs.lemmas.List.Sums.{count_by_more_yes, count_by_more_no}
use Rattle.std.proofs.lemmas.Bool.{cases_lt, cases_eq, both_ways}
use Rattle.circuit.specs.declared.gate.Gate.{Gate}
use Rattle.circuit.specs.declared.gate.Gate.TheVariants as gate
use Rattle.circuit.specs.Value.{value_at, gate_value, values, value, parts_of, is_input, input_count, IsNumbered, IsCircuit}
use Rattle.circuit.specs.Support.{with_marks, IsClosedAt, IsCone, IsInputNeeded, AreInputsNeeded, AgreeOn, IsSupportBy}
use Rattle.circuit.proofs.Below.{below-weaker}
use Rattle.circuit.specs.Settled.{settled, settled_at}
use Rattle.circuit.proofs.Extend.{value_of_gate, part_value, all_same, any_same}
use Rattle.circuit.proofs.Settling.{settled_is_value}

-- ---- gates over nodes of the same values
gate_same : (needed xs ys vs ws : List Bool) (g : Gate) → AgreeOn needed xs ys → IsInputNeeded needed g → AllByRecursion (λ part. value_at vs part ≡ value_at ws part) (parts_of g) → gate_value xs vs g ≡ gate_value ys ws g
gate_same needed xs ys vs ws (gate.Input number) agree input parts = agree number input
gate_same needed xs ys vs ws (gate.And parts) agree input same = all_same (value_at vs) (value_at ws) parts same
gate_same needed xs ys vs ws (gate.Or parts) agree input same = any_same (value_at vs) (value_at ws) parts same
gate_same needed xs ys vs ws (gate.Not part) agree input same = ap not same.0
gate_same needed xs ys vs ws (gate.Ite condition a b) agree input same =
    ap (λ t. if t then value_at vs a else value_at vs b) same.0
    ∙ ap₂ (λ t u. if value_at ws condition then t else u) same.1.0 same.1.1.0

parts_same : (marked vs ws : List Bool) (n : ℕ) → ((part : ℕ) → part < n → value_at marked part ≡ true → value_at vs part ≡ value_at ws part) →
    (parts : List ℕ) → AllByRecursion (λ part. part < n) parts → AllByRecursion (λ part. value_at marked part ≡ true) parts → AllByRecursion (λ part. value_at vs part ≡ value_at ws part) parts
parts_same marked vs ws n same [] below marks = tt
parts_same marked vs ws n same (part ∷ parts) below marks = (same part below.0 marks.0, parts_same marked vs ws n same parts below.1 marks.1)

-- what a choice settles is the same for all inputs that begin with it
settled_same : (gates : List Gate) (chosen xs ys : List Bool) (node : ℕ) (v : Bool) → settled_at (settled gates chosen) node ≡ Some v → value gates (chosen ++ xs) node ≡ value gates (chosen ++ ys) node
settled_same gates chosen xs ys node v e = settled_is_value gates chosen xs node v e ∙ sym (settled_is_value gates chosen ys node v e)

module _ (gates : List Gate) (root : ℕ) (chosen marked needed : List Bool) (circuit : IsCircuit gates) (cone : IsCone gates root (settled gates chosen) marked) (inputs : AreInputsNeeded gates marked needed) (rest others : List Bool) (agree : AgreeOn needed (chosen ++ rest) (chosen ++ others)) where
  -- at each marked node below n
  pub same_below : (n node : ℕ) → n ≤ length gates → node < n → value_at marked node ≡ true → value gates (chosen ++ rest) node ≡ value gates (chosen ++ others) node
  same_below zero node h k m = absurd (omega arith)
  same_below (suc n) node h k m =
      let xs : List Bool = chosen ++ rest in
      let ys : List Bool = chosen ++ others in
      let in' : node < length gates = omega arith in
      let any : Gate = gate.And [] in
      elim (cases_lt node n) [
        | inl lt ↦ same_below n node (omega arith) lt m
        | inr ge ↦
            elim (settled_at (settled gates chosen) node) as (λ o. settled_at (settled gates chosen) node ≡ o → value gates xs node ≡ value gates ys node) [
              | Some v ↦ λ e. settled_same gates chosen rest others node v e
              | None ↦ λ e.
                  let g : Gate = get_or gates node any in
                  let before : length (take node gates) ≡ node = length-take-le node gates (omega arith) in
                  let P : ℕ → Type 0 = λ k. AllByRecursion (λ part. part < k) (parts_of g) in
                  let below : AllByRecursion (λ part. part < node) (parts_of g) = subst P before (circuit node any in').parts in
                  let same : (part : ℕ) → part < node → value_at marked part ≡ true → value_at (values (take node gates) xs) part ≡ value_at (values (take node gates) ys) part =
                  λ part lt mark. part_value gates xs node part (omega arith) lt ∙ same_below n part (omega arith) (omega arith) mark ∙ sym (part_value gates ys node part (omega arith) lt) in
                  let parts = parts_same marked (values (take node gates) xs) (values (take node gates) ys) node same (parts_of g) below (cone.closed node in' e any m) in
                  value_of_gate gates xs node any in'
                  ∙ gate_same needed xs ys (values (take node gates) xs) (values (take node gates) ys) g agree (inputs node any in' m) parts
                  ∙ sym (value_of_gate gates ys node any in')
            ] refl
      ]

pub cone_supports : (gates : List Gate) (root : ℕ) (table : List (Option Bool)) (marked needed : List Bool) → IsCircuit gates → root < length gates → IsCone gates root table marked → length needed ≡ input_count gates → AreInputsNeeded gates marked needed →
    IsSupportBy gates root table needed
cone_supports gates root table marked needed circuit h cone count inputs = λ chosen is.
    let P : List (Option Bool) → Type 0 = λ t. IsCone gates root t marked in
    record {
      count = count;
      enough = λ xs ys agree. same_below gates root chosen marked needed circuit (subst P is cone) inputs xs ys agree (length gates) root (omega arith) h cone.start;
    }

-- ---- marks
pub length-with_marks : (places : List ℕ) (marked : List Bool) → length (with_marks marked places) ≡ length marked
length-with_marks [] marked = refl
length-with_marks (place ∷ places) marked = length-with_marks places (set marked place true) ∙ length-set marked place true

set_stays : (marked : List Bool) (place k : ℕ) → value_at marked k ≡ true → value_at (set marked place true) k ≡ true
set_stays marked place k m =
    elim (cases_eq k place) [
      | inl e ↦
          elim (cases_lt place (length marked)) [
            | inl lt ↦ ap (λ n. value_at (set marked place true) n) e ∙ get_or-set_same marked place true false lt
            | inr ge ↦ (let past = get_or_past marked k false (omega arith) in cc)
          ]
      | inr ne ↦ get_or-set_other marked place k true false ne ∙ m
    ]

marks_stay : (places : List ℕ) (marked : List Bool) (k : ℕ) → value_at marked k ≡ true → value_at (with_marks marked places) k ≡ true
marks_stay [] marked k m = m
marks_stay (place ∷ places) marked k m = marks_stay places (set marked place true) k (set_stays marked place k m)

all_stay : (places parts : List ℕ) (marked : List Bool) → AllByRecursion (λ part. value_at marked part ≡ true) parts → AllByRecursion (λ part. value_at (with_marks marked places) part ≡ true) parts
all_stay places [] marked h = tt
all_stay places (part ∷ parts) marked h = (marks_stay places marked part h.0, all_stay places parts marked h.1)

below_kept : (m n : ℕ) (places : List ℕ) → m ≡ n → AllByRecursion (λ place. place < m) places → AllByRecursion (λ place. place < n) places
below_kept m n places e h = let P : ℕ → Type 0 = λ k. AllByRecursion (λ place. place < k) places in subst P e h

all_marked : (places : List ℕ) (marked : List Bool) → AllByRecursion (λ place. place < length marked) places → AllByRecursion (λ place. value_at (with_marks marked places) place ≡ true) places
all_marked [] marked h = tt
all_marked (place ∷ places) marked h = (
  marks_stay places (set marked place true) place (get_or-set_same marked place true false h.0),
  all_marked places (set marked place true) (below_kept (length marked) (length (set marked place true)) places (sym (length-set marked place true)) h.1),
)

others_stay : (places : List ℕ) (marked : List Bool) (n k : ℕ) → n ≤ k → AllByRecursion (λ place. place < n) places → value_at (with_marks marked places) k ≡ value_at marked k
others_stay [] marked n k h below = refl
others_stay (place ∷ places) marked n k h below = others_stay places (set marked place true) n k h below.1 ∙ get_or-set_other marked place k true false (λ e. omega (arith, below.0, e))

-- ---- the pass from the last gate down
pub record IsClosedFrom (gates : List Gate) (root : ℕ) (table : List (Option Bool)) (place : ℕ) (marked : List Bool) : Type 0 where
  pub count : length marked ≡ length gates
  pub start : value_at marked root ≡ true
  pub closed : (node : ℕ) → place ≤ node → node < length gates → settled_at table node ≡ None → IsClosedAt gates marked node

pub none_closed : (gates : List Gate) (root : ℕ) (table : List (Option Bool)) → root < length gates → IsClosedFrom gates root table (length gates) (set (replicate (length gates) false) root true)
none_closed gates root table h =
    let m : length (replicate (length gates) false) ≡ length gates = length-replicate (length gates) false in
    record {
      count = length-set (replicate (length gates) false) root true ∙ m;
      start = get_or-set_same (replicate (length gates) false) root true false (omega arith);
      closed = λ node from below unsettled. absurd (omega arith);
    }

-- a place whose node is not marked
pub closed_unmarked : (gates : List Gate) (root : ℕ) (table : List (Option Bool)) (place : ℕ) (marked : List Bool) → value_at marked place ≡ false → IsClosedFrom gates root table (place + 1) marked → IsClosedFrom gates root table place marked
closed_unmarked gates root table place marked off closed = record {
  count = closed.count;
  start = closed.start;
  closed = λ node from below unsettled.
      elim (cases_lt place node) [
        | inl lt ↦ closed.closed node (omega arith) below unsettled
        | inr ge ↦ (let e : node ≡ place = omega arith in λ g m. absurd (both_ways (value_at marked node) (ap (value_at marked) e ∙ off) m))
      ];
}

some_is_open : (o : Option Bool) → is_none o ≡ false → o ≡ None → ⊥
some_is_open (Some v) h e = cc
some_is_open None h e = cc

-- a place whose node is settled
pub closed_settled : (gates : List Gate) (root : ℕ) (table : List (Option Bool)) (place : ℕ) (marked : List Bool) → is_none (settled_at table place) ≡ false → IsClosedFrom gates root table (place + 1) marked → IsClosedFrom gates root table place marked
closed_settled gates root table place marked known closed = record {
  count = closed.count;
  start = closed.start;
  closed = λ node from below unsettled.
      elim (cases_lt place node) [
        | inl lt ↦ closed.closed node (omega arith) below unsettled
        | inr ge ↦ (let e : place ≡ node = omega arith in absurd (some_is_open (settled_at table place) known (ap (settled_at table) e ∙ unsettled)))
      ];
}

-- a place whose node is marked, and now its parts too
pub closed_marked : (gates : List Gate) (root : ℕ) (table : List (Option Bool)) (place : ℕ) (g : Gate) (marked : List Bool) → IsCircuit gates → place < length gates → g ≡ get_or gates place g → IsClosedFrom gates root table (place + 1) marked →
    IsClosedFrom gates root table place (with_marks marked (parts_of g))
closed_marked gates root table place g marked circuit h is closed =
    let before : length (take place gates) ≡ place = length-take-le place gates (omega arith) in
    let P : Gate → Type 0 = λ x. AllByRecursion (λ part. part < length (take place gates)) (parts_of x) in
    let below : AllByRecursion (λ part. part < place) (parts_of g) = below_kept (length (take place gates)) place (parts_of g) before (subst P (sym is) (circuit place g h).parts) in
    record {
      count = length-with_marks (parts_of g) marked ∙ closed.count;
      start = marks_stay (parts_of g) marked root closed.start;
      closed = λ node from in' unsettled.
          elim (cases_lt place node) [
            | inl lt ↦ λ d m. all_stay (parts_of g) (parts_of (get_or gates node d)) marked (closed.closed node (omega arith) in' unsettled d (sym (others_stay (parts_of g) marked place node from below) ∙ m))
            | inr ge ↦ λ d m.
                let e : place ≡ node = omega arith in
                let here : g ≡ get_or gates node d = get_or_read gates place g h is d ∙ ap (λ k. get_or gates k d) e in
                let Q : Gate → Type 0 = λ x. AllByRecursion (λ part. value_at (with_marks marked (parts_of g)) part ≡ true) (parts_of x) in
                let count = closed.count in
                subst Q here (all_marked (parts_of g) marked (below-weaker place (length marked) (parts_of g) (omega arith) below))
          ];
    }

-- what a call leaves of a list that it was lent whole
pub lent_whole : (xs ys : List Bool) (n : ℕ) → length ys ≡ length xs → n ≡ length xs → take n (ys ++ drop (length ys) xs) ≡ ys
lent_whole xs ys n e h =
    ap (λ zs. take n (ys ++ zs)) (drop_all (length ys) xs (omega arith)) ∙ ap (take n) (append-nil ys) ∙ take_all n ys (omega arith)

-- ---- the pass over the input gates
needed_stays : (needed more : List Bool) (k : ℕ) → value_at needed k ≡ true → value_at (needed ++ more) k ≡ true
needed_stays needed more k m =
    elim (cases_lt k (length needed)) [
      | inl lt ↦ get_or_append_left needed more false k lt ∙ m
      | inr ge ↦ absurd (both_ways (value_at needed k) (get_or_past needed k false ge) m)
    ]

needed_input : (needed more : List Bool) (g : Gate) → IsInputNeeded needed g → IsInputNeeded (needed ++ more) g
needed_input needed more (gate.Input number) h = needed_stays needed more number h
needed_input needed more (gate.And parts) h = tt
needed_input needed more (gate.Or parts) h = tt
needed_input needed more (gate.Not part) h = tt
needed_input needed more (gate.Ite condition a b) h = tt

pub record AreInputsKnown (gates : List Gate) (marked : List Bool) (place : ℕ) (needed : List Bool) : Type 0 where
  pub count : length needed ≡ input_count (take place gates)
  pub inputs : (node : ℕ) (g : Gate) → node < place → node < length gates → value_at marked node ≡ true → IsInputNeeded needed (get_or gates node g)

pub input_known : (gates : List Gate) (marked needed : List Bool) (place : ℕ) (g : Gate) (number : ℕ) (v : Bool) → IsCircuit gates → place < length gates → g ≡ get_or gates place g → g ≡ gate.Input number → v ≡ value_at marked place →
    AreInputsKnown gates marked place needed → AreInputsKnown gates marked (place + 1) (needed ++ v ∷ [])
input_known gates marked needed place g number v circuit h is input mark known =
    let x : gate.Input number ≡ get_or gates place g = sym input ∙ is in
    let P : Gate → Type 0 = λ y. IsNumbered (input_count (take place gates)) y in
    let numbered : number ≡ input_count (take place gates) = subst P (sym x) (circuit place g h).number in
    let last : length needed ≡ number = known.count ∙ sym numbered in
    record {
      count = length_push needed v ∙ ap (λ n. n + 1) known.count ∙ sym (count_by_more_yes is_input gates place g h (ap is_input (sym x)));
      inputs = λ node d below in' m.
          elim (cases_lt node place) [
            | inl lt ↦ needed_input needed (v ∷ []) (get_or gates node d) (known.inputs node d lt in' m)
            | inr ge ↦
                let e : place ≡ node = omega arith in
                let here : g ≡ get_or gates node d = get_or_read gates place g h is d ∙ ap (λ k. get_or gates k d) e in
                let Q : Gate → Type 0 = λ y. IsInputNeeded (needed ++ v ∷ []) y in
                subst Q (sym input ∙ here) (get_or_push needed v false number last ∙ mark ∙ ap (value_at marked) e ∙ m)
          ];
    }

other_needed : (needed : List Bool) (g : Gate) → is_input g ≡ false → IsInputNeeded needed g
other_needed needed (gate.Input number) h = cc
other_needed needed (gate.And parts) h = tt
other_needed needed (gate.Or parts) h = tt
other_needed needed (gate.Not part) h = tt
other_needed needed (gate.Ite condition a b) h = tt

pub other_known : (gates : List Gate) (marked needed : List Bool) (place : ℕ) (g : Gate) → place < length gates → g ≡ get_or gates place g → is_input g ≡ false →
    AreInputsKnown gates marked place needed → AreInputsKnown gates marked (place + 1) needed
other_known gates marked needed place g h is other known = record {
  count = known.count ∙ sym (count_by_more_no is_input gates place g h (ap is_input (sym is) ∙ other));
  inputs = λ node d below in' m.
      elim (cases_lt node place) [
        | inl lt ↦ known.inputs node d lt in' m
        | inr ge ↦
            let e : place ≡ node = omega arith in
            let here : g ≡ get_or gates node d = get_or_read gates place g h is d ∙ ap (λ k. get_or gates k d) e in
            other_needed needed (get_or gates node d) (ap is_input (sym here) ∙ other)
      ];
}

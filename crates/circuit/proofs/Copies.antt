-- The gates of another circuit, copied one by one: each copy has the value of its gate.
use Rattle.std.proofs.Common.{◌≡◌, ℕ, ◌+◌, ◌<◌, ◌≤◌, zero, suc, Bool, false, not, ◌&&◌, ◌||◌, if◌then◌else◌, List, [], ◌∷◌, ◌++◌, length, get_or, take, map, refl, sym, ap, ap₂, subst, ◌∙◌, arith}
use Rattle.std.specs.List.{AllByRecursion, list_all, list_any}
use Rattle.std.proofs.lemmas.List.{length_push, map_push, take_more, take_all}
use Rattle.std.proofs.lemmas.List.Sums.{fold-append}
use Rattle.circuit.specs.declared.gate.Gate.{Gate}
use Rattle.circuit.specs.declared.gate.Gate.TheVariants as gate
use Rattle.circuit.specs.Value.{value, value_at, values, gate_value, is_input, input_count, parts_of, AreNodes, Grows, IsCircuit, IsInputBelow, IsNext}
use Rattle.circuit.specs.Sharing.{Made, made, found_or_added, MadeAll, made_all}
use Rattle.circuit.specs.Append.{number_at, moved, with_copy, with_next_copy, with_copies, with_circuit}
use Rattle.circuit.proofs.Below.{below_push}
use Rattle.circuit.proofs.Extend.{values_push, Grows-refl, Grows-trans}
use Rattle.circuit.proofs.Settling.{input_below}
use Rattle.circuit.proofs.Tests.{gate_test, nodes_stay, map_stays}

-- ---- numbers at places
pub below_at : (n : ℕ) (numbers : List ℕ) (place d : ℕ) → AllByRecursion (λ k. k < n) numbers → place < length numbers → get_or numbers place d < n
below_at n [] place d h lt = absurd (omega arith)
below_at n (x ∷ xs) zero d h lt = h.0
below_at n (x ∷ xs) (suc place) d h lt = below_at n xs place d h.1 (omega arith)

pub map_at : (f : ℕ → Bool) (numbers : List ℕ) (place : ℕ) → place < length numbers → f (number_at numbers place) ≡ value_at (map f numbers) place
map_at f [] place lt = absurd (omega arith)
map_at f (x ∷ xs) zero lt = refl
map_at f (x ∷ xs) (suc place) lt = map_at f xs place (omega arith)

pub moved_below : (n : ℕ) (numbers places : List ℕ) → AllByRecursion (λ k. k < n) numbers → AllByRecursion (λ place. place < length numbers) places → AllByRecursion (λ k. k < n) (map (number_at numbers) places)
moved_below n numbers [] h below = tt
moved_below n numbers (place ∷ places) h below = (below_at n numbers place 0 h below.0, moved_below n numbers places h below.1)

moved_map : (f : ℕ → Bool) (numbers places : List ℕ) → AllByRecursion (λ place. place < length numbers) places → map f (map (number_at numbers) places) ≡ map (value_at (map f numbers)) places
moved_map f numbers [] below = refl
moved_map f numbers (place ∷ places) below = ap₂ ◌∷◌ (map_at f numbers place below.0) (moved_map f numbers places below.1)

-- ---- a gate over other numbers
moved_all : (f : ℕ → Bool) (numbers places : List ℕ) → AllByRecursion (λ place. place < length numbers) places → list_all f (map (number_at numbers) places) ≡ list_all (value_at (map f numbers)) places
moved_all f numbers [] below = refl
moved_all f numbers (place ∷ places) below = ap₂ ◌&&◌ (map_at f numbers place below.0) (moved_all f numbers places below.1)

moved_any : (f : ℕ → Bool) (numbers places : List ℕ) → AllByRecursion (λ place. place < length numbers) places → list_any f (map (number_at numbers) places) ≡ list_any (value_at (map f numbers)) places
moved_any f numbers [] below = refl
moved_any f numbers (place ∷ places) below = ap₂ ◌||◌ (map_at f numbers place below.0) (moved_any f numbers places below.1)

-- it is worth what the gate is over the values that the numbers have
pub gate_moved : (inputs vs : List Bool) (numbers : List ℕ) (g : Gate) → AllByRecursion (λ part. part < length numbers) (parts_of g) → gate_value inputs vs (moved numbers g) ≡ gate_value inputs (map (value_at vs) numbers) g
gate_moved inputs vs numbers (gate.Input number) below = refl
gate_moved inputs vs numbers (gate.And parts) below = moved_all (value_at vs) numbers parts below
gate_moved inputs vs numbers (gate.Or parts) below = moved_any (value_at vs) numbers parts below
gate_moved inputs vs numbers (gate.Not part) below = ap not (map_at (value_at vs) numbers part below.0)
gate_moved inputs vs numbers (gate.Ite condition a b) below =
    ap (λ t. if t then value_at vs (number_at numbers a) else value_at vs (number_at numbers b)) (map_at (value_at vs) numbers condition below.0)
    ∙ ap₂ (λ t u. if value_at (map (value_at vs) numbers) condition then t else u) (map_at (value_at vs) numbers a below.1.0) (map_at (value_at vs) numbers b below.1.1.0)

pub parts_moved : (n : ℕ) (numbers : List ℕ) (g : Gate) → AllByRecursion (λ k. k < n) numbers → AllByRecursion (λ part. part < length numbers) (parts_of g) → AllByRecursion (λ k. k < n) (parts_of (moved numbers g))
parts_moved n numbers (gate.Input number) h below = tt
parts_moved n numbers (gate.And parts) h below = moved_below n numbers parts h below
parts_moved n numbers (gate.Or parts) h below = moved_below n numbers parts h below
parts_moved n numbers (gate.Not part) h below = (below_at n numbers part 0 h below.0, tt)
parts_moved n numbers (gate.Ite condition a b) h below = (below_at n numbers condition 0 h below.0, (below_at n numbers a 0 h below.1.0, (below_at n numbers b 0 h below.1.1.0, tt)))

-- ---- one copy
-- the value of a gate does not depend on the inputs, unless it is one
inputs_aside : (xs ys vs : List Bool) (g : Gate) → is_input g ≡ false → gate_value xs vs g ≡ gate_value ys vs g
inputs_aside xs ys vs (gate.Input number) other = cc
inputs_aside xs ys vs (gate.And parts) other = refl
inputs_aside xs ys vs (gate.Or parts) other = refl
inputs_aside xs ys vs (gate.Not part) other = refl
inputs_aside xs ys vs (gate.Ite condition a b) other = refl

-- what the copy of a gate is, over a circuit whose nodes have the values vs for each xs
pub record IsCopy (gates : List Gate) (inputs nodes : List ℕ) (g : Gate) (m : Made) : Type 0 where
  pub circuit : IsCircuit m.gates
  pub grown : Grows gates m.gates
  pub within : m.node < length m.gates
  pub few : length m.gates ≤ length gates + 1
  pub value : (xs : List Bool) → value m.gates xs m.node ≡ gate_value (map (value gates xs) inputs) (map (value gates xs) nodes) g

added_copy : (gates : List Gate) (inputs nodes : List ℕ) (g : Gate) → IsCircuit gates → AreNodes gates nodes → AllByRecursion (λ part. part < length nodes) (parts_of g) → is_input g ≡ false → is_input (moved nodes g) ≡ false
    → IsNext gates (moved nodes g) → IsCopy gates inputs nodes g (found_or_added gates (moved nodes g))
unfolding value
added_copy gates inputs nodes g circuit within below other others next =
    let test = gate_test gates (moved nodes g) circuit next others in
    record {
      circuit = test.circuit;
      grown = test.grown;
      within = test.within;
      few = test.few;
      value = λ xs. test.value xs ∙ gate_moved xs (values gates xs) nodes g below ∙ inputs_aside xs (map (value gates xs) inputs) (map (value gates xs) nodes) g other;
    }

pub is_copy : (gates : List Gate) (inputs nodes : List ℕ) (g : Gate) → IsCircuit gates → AreNodes gates inputs → AreNodes gates nodes → IsInputBelow (length inputs) g → AllByRecursion (λ part. part < length nodes) (parts_of g)
    → IsCopy gates inputs nodes g (with_copy inputs gates nodes g)
is_copy gates inputs nodes (gate.Input number) circuit given within number_below below = record {
  circuit = circuit;
  grown = Grows-refl gates;
  within = below_at (length gates) inputs number 0 given number_below;
  few = omega arith;
  value = λ xs. map_at (value gates xs) inputs number number_below;
}
is_copy gates inputs nodes (gate.And parts) circuit given within number_below below =
    added_copy gates inputs nodes (gate.And parts) circuit within below refl refl (record { parts = parts_moved (length gates) nodes (gate.And parts) within below; number = tt })
is_copy gates inputs nodes (gate.Or parts) circuit given within number_below below =
    added_copy gates inputs nodes (gate.Or parts) circuit within below refl refl (record { parts = parts_moved (length gates) nodes (gate.Or parts) within below; number = tt })
is_copy gates inputs nodes (gate.Not part) circuit given within number_below below =
    added_copy gates inputs nodes (gate.Not part) circuit within below refl refl (record { parts = parts_moved (length gates) nodes (gate.Not part) within below; number = tt })
is_copy gates inputs nodes (gate.Ite condition a b) circuit given within number_below below =
    added_copy gates inputs nodes (gate.Ite condition a b) circuit within below refl refl (record { parts = parts_moved (length gates) nodes (gate.Ite condition a b) within below; number = tt })

-- ---- all copies
-- the first gates of another circuit were copied
pub record AreCopies (gates front : List Gate) (inputs : List ℕ) (all : MadeAll) : Type 0 where
  pub circuit : IsCircuit all.gates
  pub grown : Grows gates all.gates
  pub within : AreNodes all.gates all.nodes
  pub count : length all.nodes ≡ length front
  pub few : length all.gates ≤ length gates + length front
  pub value : (xs : List Bool) → map (value all.gates xs) all.nodes ≡ values front (map (value gates xs) inputs)

next_copy : (gates front : List Gate) (inputs : List ℕ) (all : MadeAll) (g : Gate) → AreNodes gates inputs → IsInputBelow (length inputs) g → AllByRecursion (λ part. part < length front) (parts_of g) → AreCopies gates front inputs all
    → AreCopies gates (front ++ g ∷ []) inputs (with_next_copy inputs all g)
next_copy gates front inputs all g given number_below below copies =
    let P : ℕ → Type 0 = λ n. AllByRecursion (λ part. part < n) (parts_of g) in
    let m : Made = with_copy inputs all.gates all.nodes g in
    let copy : IsCopy all.gates inputs all.nodes g m = is_copy all.gates inputs all.nodes g copies.circuit (nodes_stay gates all.gates inputs copies.grown given) copies.within number_below (subst P (sym copies.count) below) in
    record {
      circuit = copy.circuit;
      grown = Grows-trans gates all.gates m.gates copies.grown copy.grown;
      within = below_push (length m.gates) all.nodes m.node copy.within (nodes_stay all.gates m.gates all.nodes copy.grown copies.within);
      count = length_push all.nodes m.node ∙ ap (λ n. n + 1) copies.count ∙ sym (length_push front g);
      few = omega (arith, copy.few, copies.few, length_push front g);
      value = λ xs.
          let ys : List Bool = map (value gates xs) inputs in
          map_push (value m.gates xs) all.nodes m.node
          ∙ ap₂ (λ vs v. vs ++ v ∷ []) (map_stays all.gates m.gates all.nodes xs copy.grown copies.within ∙ copies.value xs)
          (copy.value xs ∙ ap₂ (λ given vs. gate_value given vs g) (map_stays gates all.gates inputs xs copies.grown given) (copies.value xs))
          ∙ sym (values_push front g ys);
    }

pub front_copies : (gates other : List Gate) (inputs : List ℕ) → IsCircuit gates → IsCircuit other → AreNodes gates inputs → length inputs ≡ input_count other → (n : ℕ) → n ≤ length other
    → AreCopies gates (take n other) inputs (with_copies gates (take n other) inputs)
unfolding with_copies values
front_copies gates other inputs circuit is given count zero h = record { circuit = circuit; grown = Grows-refl gates; within = tt; count = refl; few = omega arith; value = λ xs. refl }
front_copies gates other inputs circuit is given count (suc n) h =
    let any : Gate = gate.And [] in
    let g : Gate = get_or other n any in
    let front : List Gate = take n other in
    let lt : n < length other = omega arith in
    let next_place : n + 1 ≡ suc n = omega arith in
    let more : take (suc n) other ≡ front ++ g ∷ [] = ap (λ k. take k other) (sym next_place) ∙ take_more other n any lt in
    let ih : AreCopies gates front inputs (with_copies gates front inputs) = front_copies gates other inputs circuit is given count n (omega arith) in
    let below : AllByRecursion (λ part. part < length front) (parts_of g) = (is n any lt).parts in
    let number_below : IsInputBelow (length inputs) g = subst (λ k. IsInputBelow k g) (sym count) (input_below other is n any lt) in
    let next : with_copies gates (front ++ g ∷ []) inputs ≡ with_next_copy inputs (with_copies gates front inputs) g = fold-append (with_next_copy inputs) (made_all gates []) front (g ∷ []) in
    let P : List Gate → MadeAll → Type 0 = λ front all. AreCopies gates front inputs all in
    subst (λ front. P front (with_copies gates front inputs)) (sym more) (subst (λ all. P (front ++ g ∷ []) all) (sym next) (next_copy gates front inputs (with_copies gates front inputs) g given number_below below ih))

pub are_copies : (gates other : List Gate) (inputs : List ℕ) → IsCircuit gates → IsCircuit other → AreNodes gates inputs → length inputs ≡ input_count other → AreCopies gates other inputs (with_copies gates other inputs)
are_copies gates other inputs circuit is given count =
    let all : take (length other) other ≡ other = take_all (length other) other (omega arith) in
    subst (λ front. AreCopies gates front inputs (with_copies gates front inputs)) all (front_copies gates other inputs circuit is given count (length other) (omega arith))

-- ---- for the loop over the gates
pub copies_so_far : (gates other : List Gate) (inputs : List ℕ) → IsCircuit gates → IsCircuit other → AreNodes gates inputs → length inputs ≡ input_count other → (n : ℕ) (cur : List Gate) (nodes : List ℕ) → n ≤ length other
    → made_all cur nodes ≡ with_copies gates (take n other) inputs → AreCopies gates (take n other) inputs (made_all cur nodes)
copies_so_far gates other inputs circuit is given count n cur nodes h made_is =
    subst (AreCopies gates (take n other) inputs) (sym made_is) (front_copies gates other inputs circuit is given count n h)

pub parts_so_far : (gates other : List Gate) (inputs : List ℕ) (n : ℕ) (g : Gate) (all : MadeAll) → IsCircuit other → n < length other → g ≡ get_or other n g → AreCopies gates (take n other) inputs all → AllByRecursion (λ part. part < length all.nodes) (parts_of g)
parts_so_far gates other inputs n g all is lt read copies =
    let P : ℕ → Gate → Type 0 = λ count g. AllByRecursion (λ part. part < count) (parts_of g) in
    subst (λ count. P count g) (sym copies.count) (subst (P (length (take n other))) (sym read) (is n g lt).parts)

pub input_so_far : (other : List Gate) (count n : ℕ) (g : Gate) → IsCircuit other → count ≡ input_count other → n < length other → g ≡ get_or other n g → IsInputBelow count g
input_so_far other count n g is same lt read = subst (λ k. IsInputBelow k g) (sym same) (subst (IsInputBelow (input_count other)) (sym read) (input_below other is n g lt))

pub copies_more : (gates other : List Gate) (inputs : List ℕ) (n : ℕ) (g : Gate) (cur new : List Gate) (nodes : List ℕ) (node : ℕ) → n < length other → g ≡ get_or other n g → made_all cur nodes ≡ with_copies gates (take n other) inputs
    → made new node ≡ with_copy inputs cur nodes g → made_all new (nodes ++ node ∷ []) ≡ with_copies gates (take (n + 1) other) inputs
unfolding with_copies
copies_more gates other inputs n g cur new nodes node lt read so_far one =
    let front : List Gate = take n other in
    let more : take (n + 1) other ≡ front ++ g ∷ [] = take_more other n g lt ∙ ap (λ h. front ++ h ∷ []) (sym read) in
    ap (λ m. made_all m.gates (nodes ++ m.node ∷ [])) one
    ∙ ap (λ all. with_next_copy inputs all g) so_far
    ∙ sym (ap (λ gs. with_copies gates gs inputs) more ∙ fold-append (with_next_copy inputs) (made_all gates []) front (g ∷ []))

-- ---- the roots
pub record IsAppended (gates other : List Gate) (inputs roots : List ℕ) (all : MadeAll) : Type 0 where
  pub within : AreNodes all.gates all.nodes
  pub few : length all.gates ≤ length gates + length other
  pub value : (xs : List Bool) → map (value all.gates xs) all.nodes ≡ map (value other (map (value gates xs) inputs)) roots

pub roots_within : (other : List Gate) (roots : List ℕ) (count : ℕ) → AreNodes other roots → count ≡ length other → AllByRecursion (λ place. place < count) roots
roots_within other roots count h same = subst (λ n. AllByRecursion (λ place. place < n) roots) (sym same) h

pub is_appended : (gates other : List Gate) (inputs roots : List ℕ) → IsCircuit gates → IsCircuit other → AreNodes gates inputs → length inputs ≡ input_count other → AreNodes other roots → IsAppended gates other inputs roots (with_circuit gates other inputs roots)
unfolding value
is_appended gates other inputs roots circuit is given count rooted =
    let all : MadeAll = with_copies gates other inputs in
    let copies : AreCopies gates other inputs all = are_copies gates other inputs circuit is given count in
    let below = roots_within other roots (length all.nodes) rooted copies.count in
    record {
      within = moved_below (length all.gates) all.nodes roots copies.within below;
      few = copies.few;
      value = λ xs. moved_map (value all.gates xs) all.nodes roots below ∙ ap (λ vs. map (value_at vs) roots) (copies.value xs);
    }

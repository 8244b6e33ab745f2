-- What the gates are worth that compare two lists pair by pair.
use Rattle.std.proofs.Common.{◌≡◌, ℕ, ◌+◌, ◌*◌, ◌^◌, ◌<◌, ◌≤◌, ◌↔◌, Bool, true, false, not, ◌&&◌, ◌==◌, if◌then◌else◌, List, [], ◌∷◌, ◌++◌, length, get_or, drop, map, refl, sym, ap, ap₂, ◌∙◌, arith, append_assoc}
use Rattle.std.specs.List.{list_all}
use Rattle.std.proofs.lemmas.List.{length-map, drop_more}
use Rattle.std.proofs.lemmas.Bool.Decides.{nat_tests}
use Rattle.circuit.specs.declared.gate.Gate.{Gate}
use Rattle.circuit.specs.declared.gate.Gate.TheVariants as gate
use Rattle.circuit.specs.Value.{value, AreNodes, Grows, IsCircuit}
use Rattle.circuit.specs.Number.{number}
use Rattle.circuit.specs.Sharing.{Made, MadeAll, made, made_all, found_or_added}
use Rattle.circuit.specs.Gates.{with_pair, with_pairs, with_equal}
use Rattle.circuit.proofs.Numbers.{number-lt, number-injective}
use Rattle.circuit.proofs.Extend.{Grows-refl, Grows-trans, Grows-extends}
use Rattle.circuit.proofs.Tests.{IsTest, gate_test, test_next, test_stays, node_stays, nodes_stay, map_stays}

-- ---- numbers by their highest bits
first_pair : (b c : Bool) (m n p q : ℕ) → m < p → n < q → p ≡ q → (((if b then p else 0) + m) == ((if c then q else 0) + n)) ≡ ((if b then c else not c) && (m == n))
first_pair true true m n p q h k e = grind (arith, nat_tests)
first_pair true false m n p q h k e = grind (arith, nat_tests)
first_pair false true m n p q h k e = grind (arith, nat_tests)
first_pair false false m n p q h k e = grind (arith, nat_tests)

number_pair : (b c : Bool) (xs ys : List Bool) → length xs ≡ length ys → (number (b ∷ xs) == number (c ∷ ys)) ≡ ((if b then c else not c) && (number xs == number ys))
number_pair b c xs ys e = first_pair b c (number xs) (number ys) (2 ^ length xs) (2 ^ length ys) (number-lt xs) (number-lt ys) (ap (λ k. 2 ^ k) e)

-- ---- pair by pair
pub pair_test : (gates : List Gate) (x y : ℕ) → IsCircuit gates → x < length gates → y < length gates →
    IsTest gates (with_pair gates x y) 2 (λ inputs. if value gates inputs x then value gates inputs y else not (value gates inputs y))
unfolding value
pair_test gates x y circuit h k =
    let other : Made = found_or_added gates (gate.Not y) in
    let one : IsTest gates other 1 (λ inputs. not (value gates inputs y)) = gate_test gates (gate.Not y) circuit (record { parts = (k, tt); number = tt }) refl in
    test_next gates other 1 _ (λ inputs. if value gates inputs x then value gates inputs y else not (value gates inputs y)) (gate.Ite x y other.node) one
    (record { parts = (node_stays gates other.gates x one.grown h, (node_stays gates other.gates y one.grown k, (one.within, tt))); number = tt }) refl
    (λ inputs.
    let older = (Grows-extends gates other.gates one.grown).older inputs in
    ap (λ t. if t then value other.gates inputs y else value other.gates inputs other.node) (older x h)
    ∙ ap₂ (λ t u. if value gates inputs x then t else u) (older y k) (one.value inputs))

pub record AreTests (gates : List Gate) (all : MadeAll) (most : ℕ) (meaning : List Bool → Bool) : Type 0 where
  pub circuit : IsCircuit all.gates
  pub grown : Grows gates all.gates
  pub within : AreNodes all.gates all.nodes
  pub few : length all.gates ≤ length gates + most
  pub value : (inputs : List Bool) → list_all (value all.gates inputs) all.nodes ≡ meaning inputs

pub pairs_tests : (gates : List Gate) (xs ys : List ℕ) → IsCircuit gates → AreNodes gates xs → AreNodes gates ys → length xs ≡ length ys →
    AreTests gates (with_pairs gates xs ys) (2 * length xs) (λ inputs. number (map (value gates inputs) xs) == number (map (value gates inputs) ys))
pairs_tests gates [] [] circuit h k e = record { circuit = circuit; grown = Grows-refl gates; within = tt; few = omega arith; value = λ inputs. refl }
pairs_tests gates [] (y ∷ ys) circuit h k e = absurd (omega arith)
pairs_tests gates (x ∷ xs) [] circuit h k e = absurd (omega arith)
pairs_tests gates (x ∷ xs) (y ∷ ys) circuit h k e =
    let first : Made = with_pair gates x y in
    let others : MadeAll = with_pairs first.gates xs ys in
    let one : IsTest gates first 2 (λ inputs. if value gates inputs x then value gates inputs y else not (value gates inputs y)) = pair_test gates x y circuit h.0 k.0 in
    let long : length xs ≡ length ys = omega arith in
    let rest : AreTests first.gates others (2 * length xs) (λ inputs. number (map (value first.gates inputs) xs) == number (map (value first.gates inputs) ys)) =
    pairs_tests first.gates xs ys one.circuit (nodes_stay gates first.gates xs one.grown h.1) (nodes_stay gates first.gates ys one.grown k.1) long in
    record {
      circuit = rest.circuit;
      grown = Grows-trans gates first.gates others.gates one.grown rest.grown;
      within = (node_stays first.gates others.gates first.node rest.grown one.within, rest.within);
      few = omega (arith, one.few, rest.few);
      value = λ inputs.
          let f : ℕ → Bool = value gates inputs in
          let same : length (map f xs) ≡ length (map f ys) = length-map xs f ∙ long ∙ sym (length-map ys f) in
          ap₂ ◌&&◌ (test_stays gates others.gates first 2 _ one rest.grown inputs)
          (rest.value inputs ∙ ap₂ (λ p q. number p == number q) (map_stays gates first.gates xs inputs one.grown h.1) (map_stays gates first.gates ys inputs one.grown k.1))
          ∙ sym (number_pair (f x) (f y) (map f xs) (map f ys) same);
    }

pub equal_test : (gates : List Gate) (a b : List ℕ) → IsCircuit gates → AreNodes gates a → AreNodes gates b → length a ≡ length b →
    IsTest gates (with_equal gates a b) (2 * length a + 1) (λ inputs. number (map (value gates inputs) a) == number (map (value gates inputs) b))
unfolding value
equal_test gates a b circuit h k e =
    let pairs : MadeAll = with_pairs gates a b in
    let tests = pairs_tests gates a b circuit h k e in
    let last = gate_test pairs.gates (gate.And pairs.nodes) tests.circuit (record { parts = tests.within; number = tt }) refl in
    record {
      circuit = last.circuit;
      grown = Grows-trans gates pairs.gates _ tests.grown last.grown;
      within = last.within;
      few = omega (arith, tests.few, last.few);
      value = λ inputs. last.value inputs ∙ tests.value inputs;
    }

-- ---- what it means
same_number : (m n : ℕ) → ((m == n) ≡ true) ↔ (m ≡ n)
same_number m n = (λ t. grind (arith, nat_tests), λ e. grind (arith, nat_tests))

pub equal_lists : (f : ℕ → Bool) (a b : List ℕ) → length a ≡ length b → ((number (map f a) == number (map f b)) ≡ true) ↔ (map f a ≡ map f b)
equal_lists f a b e =
    let long : length (map f a) ≡ length (map f b) = length-map a f ∙ e ∙ sym (length-map b f) in (
      λ t. number-injective (map f a) (map f b) long ((same_number (number (map f a)) (number (map f b))).0 t),
      λ same. (same_number (number (map f a)) (number (map f b))).1 (ap number same),
    )

-- ---- for the loop over the pairs: one more
abbrev pub with_front : List ℕ → MadeAll → MadeAll
with_front tests rest = made_all rest.gates (tests ++ rest.nodes)

pub pairs_more : (cur new : List Gate) (tests a b : List ℕ) (i x y test : ℕ) → i < length a → length a ≡ length b → x ≡ get_or a i x → y ≡ get_or b i y → made new test ≡ with_pair cur x y →
    with_front (tests ++ test ∷ []) (with_pairs new (drop (i + 1) a) (drop (i + 1) b)) ≡ with_front tests (with_pairs cur (drop i a) (drop i b))
pairs_more cur new tests a b i x y test h same xs ys one =
    let left_a : List ℕ = drop (i + 1) a in
    let left_b : List ℕ = drop (i + 1) b in
    let behind : Made → MadeAll = λ first. made_all (with_pairs first.gates left_a left_b).gates (tests ++ first.node ∷ (with_pairs first.gates left_a left_b).nodes) in
    ap (made_all (with_pairs new left_a left_b).gates) (append_assoc tests (test ∷ []) (with_pairs new left_a left_b).nodes)
    ∙ ap behind one
    ∙ sym (ap₂ (λ p q. with_front tests (with_pairs cur p q)) (drop_more a i x h ∙ ap (λ p. p ∷ left_a) (sym xs)) (drop_more b i y (omega arith) ∙ ap (λ q. q ∷ left_b) (sym ys)))

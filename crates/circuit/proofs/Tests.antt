-- Tests on a circuit: what a node is worth that was found or added, and that the circuit only grew.
use Rattle.std.proofs.Common.{◌≡◌, ℕ, ◌+◌, ◌<◌, ◌≤◌, Bool, false, List, [], ◌∷◌, ◌++◌, length, map, sym, ap, subst, ◌∙◌, inl, inr, arith}
use Rattle.std.proofs.lemmas.List.{length_push}
use Rattle.circuit.specs.declared.gate.Gate.{Gate}
use Rattle.circuit.specs.Value.{value, values, gate_value, is_input, AreNodes, Extends, Grows, IsCircuit, IsNext}
use Rattle.circuit.specs.Sharing.{Made, made, found_or_added, node_of, with_gate}
use Rattle.circuit.proofs.Extend.{value_push, value_at_gate, Grows-refl, Grows-trans, Grows-push, Grows-extends, IsCircuit-push, AreNodes-extends, map-extends}
use Rattle.circuit.proofs.Sharing.{IsFound, found_or_new}

-- the node of a circuit that was made from this one by so many gates at most, and what it is worth
pub record IsTest (gates : List Gate) (m : Made) (most : ℕ) (meaning : List Bool → Bool) : Type 0 where
  pub circuit : IsCircuit m.gates
  pub grown : Grows gates m.gates
  pub within : m.node < length m.gates
  pub few : length m.gates ≤ length gates + most
  pub value : (inputs : List Bool) → value m.gates inputs m.node ≡ meaning inputs

-- ---- one gate
found_test : (gates : List Gate) (g : Gate) → IsCircuit gates → IsFound gates g → IsTest gates (made gates (node_of gates g)) 1 (λ inputs. gate_value inputs (values gates inputs) g)
found_test gates g circuit found = record {
  circuit = circuit;
  grown = Grows-refl gates;
  within = found.within;
  few = omega arith;
  value = λ inputs. value_at_gate gates inputs (node_of gates g) g circuit found.within ∙ ap (gate_value inputs (values gates inputs)) found.there;
}

added_test : (gates : List Gate) (g : Gate) → IsCircuit gates → IsNext gates g → is_input g ≡ false → IsTest gates (made (gates ++ g ∷ []) (length gates)) 1 (λ inputs. gate_value inputs (values gates inputs) g)
added_test gates g circuit next other = record {
  circuit = IsCircuit-push gates g circuit next;
  grown = Grows-push gates g other;
  within = omega (arith, length_push gates g);
  few = omega (arith, length_push gates g);
  value = λ inputs. value_push gates g inputs;
}

pub gate_test : (gates : List Gate) (g : Gate) → IsCircuit gates → IsNext gates g → is_input g ≡ false → IsTest gates (found_or_added gates g) 1 (λ inputs. gate_value inputs (values gates inputs) g)
gate_test gates g circuit next other =
    let P : List Gate → ℕ → Type 0 = λ new node. IsTest gates (made new node) 1 (λ inputs. gate_value inputs (values gates inputs) g) in
    elim (found_or_new gates g) [
      | inl found ↦ subst (λ new. P new (node_of gates g)) (sym found.stays) (found_test gates g circuit found)
      | inr added ↦ subst (λ node. P (with_gate gates g) node) (sym added.node) (subst (λ new. P new (length gates)) (sym added.longer) (added_test gates g circuit next other))
    ]

-- ---- one behind another
pub test_as : (gates : List Gate) (m : Made) (most : ℕ) (f h : List Bool → Bool) → ((inputs : List Bool) → f inputs ≡ h inputs) → IsTest gates m most f → IsTest gates m most h
test_as gates m most f h same t = record { circuit = t.circuit; grown = t.grown; within = t.within; few = t.few; value = λ inputs. t.value inputs ∙ same inputs }

pub test_most : (gates : List Gate) (m : Made) (most more : ℕ) (f : List Bool → Bool) → most ≤ more → IsTest gates m most f → IsTest gates m more f
test_most gates m most more f h t = record { circuit = t.circuit; grown = t.grown; within = t.within; few = omega (arith, t.few); value = t.value }

pub test_later : (gates : List Gate) (m n : Made) (most more : ℕ) (f h : List Bool → Bool) → IsTest gates m most f → IsTest m.gates n more h → IsTest gates n (most + more) h
test_later gates m n most more f h first second = record {
  circuit = second.circuit;
  grown = Grows-trans gates m.gates n.gates first.grown second.grown;
  within = second.within;
  few = omega (arith, first.few, second.few);
  value = second.value;
}

-- one gate more, over the circuit so far
pub test_next : (gates : List Gate) (m : Made) (most : ℕ) (f h : List Bool → Bool) (g : Gate) → IsTest gates m most f → IsNext m.gates g → is_input g ≡ false
    → ((inputs : List Bool) → gate_value inputs (values m.gates inputs) g ≡ h inputs) → IsTest gates (found_or_added m.gates g) (most + 1) h
test_next gates m most f h g t next other worth =
    test_later gates m (found_or_added m.gates g) most 1 f h t
    (test_as m.gates (found_or_added m.gates g) 1 (λ inputs. gate_value inputs (values m.gates inputs) g) h worth (gate_test m.gates g t.circuit next other))

-- a test keeps its worth behind further gates
pub test_stays : (gates new : List Gate) (m : Made) (most : ℕ) (f : List Bool → Bool) → IsTest gates m most f → Grows m.gates new → (inputs : List Bool) → value new inputs m.node ≡ f inputs
test_stays gates new m most f t grows inputs = (Grows-extends m.gates new grows).older inputs m.node t.within ∙ t.value inputs

pub node_stays : (old new : List Gate) (node : ℕ) → Grows old new → node < length old → node < length new
node_stays old new node grows within = omega (arith, (Grows-extends old new grows).longer)

-- older nodes stay nodes, and are worth the same
pub nodes_stay : (old new : List Gate) (nodes : List ℕ) → Grows old new → AreNodes old nodes → AreNodes new nodes
nodes_stay old new nodes grows h = AreNodes-extends old new (Grows-extends old new grows) nodes h

pub map_stays : (old new : List Gate) (nodes : List ℕ) (inputs : List Bool) → Grows old new → AreNodes old nodes → map (value new inputs) nodes ≡ map (value old inputs) nodes
map_stays old new nodes inputs grows h = map-extends old new (Grows-extends old new grows) inputs nodes h

-- of what a call left
pub test_at : (gates : List Gate) (m n : Made) (most : ℕ) (f : List Bool → Bool) → m ≡ n → IsTest gates n most f → IsTest gates m most f
test_at gates m n most f is t = subst (λ made. IsTest gates made most f) (sym is) t

-- what a call says that adds a test, where it has memory
pub test_answered : (gates new : List Gate) (node : ℕ) (m : Made) (most : ℕ) (f : List Bool → Bool) → made new node ≡ m → IsTest gates m most f → record {
  made : made new node ≡ m;
  within : node < length new;
  value : (inputs : List Bool) → value new inputs node ≡ f inputs;
  few : length new ≤ length gates + most;
  grown : Grows gates new;
  older : Extends gates new;
  err : Unit {0};
}
test_answered gates new node m most f is test =
    let t = test_at gates (made new node) m most f is test in
    record { made = is; within = t.within; value = t.value; few = t.few; grown = t.grown; older = Grows-extends gates new t.grown; err = tt }

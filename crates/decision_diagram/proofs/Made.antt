-- What the gates of a diagram are made of: a node that was found or added, and what it is worth in each circuit that goes on
-- from there. So the gates of two passes are compared in the circuit that the last of them leaves.
use Rattle.std.proofs.Common.{◌≡◌, ℕ, ◌<◌, Bool, true, false, not, ◌&&◌, ◌||◌, List, [], ◌∷◌, length, refl, sym, ◌∙◌}
use Rattle.std.specs.List.{list_any}
use Rattle.circuit.specs.declared.gate.Gate.{Gate}
use Rattle.circuit.specs.declared.gate.Gate.TheVariants as gate
use Rattle.circuit.specs.Value.{value as node_value, values, value_at, gate_value, parts_of, is_input, AreNodes, Extends, Grows, IsCircuit, IsNext}
use Rattle.circuit.specs.Sharing.{Made, found_or_added}
use Rattle.circuit.proofs.Extend.{gate_alike, all_below, Grows-refl, Grows-extends, Extends-trans}
use Rattle.circuit.proofs.Tests.{gate_test}
use Rattle.decision_diagram.specs.Guarded.{joined}

-- the meaning is given by what nodes are worth
pub record IsMade (gates : List Gate) (m : Made) (meaning : (ℕ → Bool) → Bool) : Type 0 where
  pub circuit : IsCircuit m.gates
  pub grown : Grows gates m.gates
  pub within : m.node < length m.gates
  pub value : (later : List Gate) (inputs : List Bool) → Extends m.gates later → node_value later inputs m.node ≡ meaning (node_value later inputs)

gate_later : (gates later : List Gate) (inputs : List Bool) (g : Gate) → Extends gates later → AreNodes gates (parts_of g) → gate_value inputs (values gates inputs) g ≡ gate_value inputs (values later inputs) g
unfolding node_value
gate_later gates later inputs g longer parts =
    gate_alike inputs (values gates inputs) (values later inputs) g
    (all_below (λ part. value_at (values gates inputs) part ≡ value_at (values later inputs) part) (length gates) (λ part lt. sym (longer.older inputs part lt)) (parts_of g) parts)

gate_made : (gates : List Gate) (g : Gate) (meaning : (ℕ → Bool) → Bool) → IsCircuit gates → IsNext gates g → is_input g ≡ false
    → ((later : List Gate) (inputs : List Bool) → gate_value inputs (values later inputs) g ≡ meaning (node_value later inputs)) → IsMade gates (found_or_added gates g) meaning
gate_made gates g meaning circuit next other means =
    let test = gate_test gates g circuit next other in
    let grows = Grows-extends gates (found_or_added gates g).gates test.grown in
    record {
      circuit = test.circuit;
      grown = test.grown;
      within = test.within;
      value = λ later inputs longer.
          longer.older inputs (found_or_added gates g).node test.within
          ∙ test.value inputs
          ∙ gate_later gates later inputs g (Extends-trans gates (found_or_added gates g).gates later grows longer) next.parts
          ∙ means later inputs;
    }

pub not_made : (gates : List Gate) (part : ℕ) → IsCircuit gates → part < length gates → IsMade gates (found_or_added gates (gate.Not part)) (λ w. not (w part))
unfolding node_value
not_made gates part circuit within =
    gate_made gates (gate.Not part) (λ w. not (w part)) circuit (record { parts = (within, tt); number = tt }) refl (λ later inputs. refl)

and_end : (a b : Bool) → (a && (b && true)) ≡ (a && b)
and_end true true = refl
and_end true false = refl
and_end false b = refl

pub or_false : (a : Bool) → (a || false) ≡ a
or_false true = refl
or_false false = refl

pub none_made : (gates : List Gate) → IsCircuit gates → IsMade gates (found_or_added gates (gate.And [])) (λ w. true)
none_made gates circuit =
    gate_made gates (gate.And []) (λ w. true) circuit (record { parts = tt; number = tt }) refl (λ later inputs. refl)

pub and_made : (gates : List Gate) (a b : ℕ) → IsCircuit gates → a < length gates → b < length gates → IsMade gates (found_or_added gates (gate.And (a ∷ b ∷ []))) (λ w. w a && w b)
unfolding node_value
and_made gates a b circuit first second =
    gate_made gates (gate.And (a ∷ b ∷ [])) (λ w. w a && w b) circuit (record { parts = (first, (second, tt)); number = tt }) refl (λ later inputs. and_end (node_value later inputs a) (node_value later inputs b))

pub any_made : (gates : List Gate) (parts : List ℕ) → IsCircuit gates → AreNodes gates parts → IsMade gates (found_or_added gates (gate.Or parts)) (λ w. list_any w parts)
unfolding node_value
any_made gates parts circuit within =
    gate_made gates (gate.Or parts) (λ w. list_any w parts) circuit (record { parts = within; number = tt }) refl (λ later inputs. refl)

-- where one of these edges is taken
pub joined_made : (gates : List Gate) (edges : List ℕ) → IsCircuit gates → AreNodes gates edges → IsMade gates (joined gates edges) (λ w. list_any w edges)
joined_made gates [] circuit within = any_made gates [] circuit within
joined_made gates (edge ∷ []) circuit within = record {
  circuit = circuit;
  grown = Grows-refl gates;
  within = within.0;
  value = λ later inputs longer. sym (or_false (node_value later inputs edge));
}
joined_made gates (edge ∷ other ∷ edges) circuit within = any_made gates (edge ∷ other ∷ edges) circuit within

-- What the gates of a wildcard test are worth.
use Rattle.std.proofs.Common.{◌≡◌, ℕ, ◌+◌, ◌<◌, Bool, true, false, not, ◌&&◌, List, [], ◌∷◌, ◌++◌, length, map, ◌==◌, ◌*◌, ◌/◌, ◌^◌, cond, if◌then◌else◌, refl, sym, ap, ◌∙◌, arith}
use Rattle.std.specs.Int.{bit_at}
use Rattle.std.specs.List.{list_all, list_any, AllByRecursion}
use Rattle.std.proofs.lemmas.List.Folds.{list_all-append}
use Rattle.circuit.specs.declared.gate.Gate.{Gate}
use Rattle.circuit.specs.declared.gate.Gate.TheVariants as gate
use Rattle.circuit.specs.Value.{value, values, value_at, gate_value, AreNodes, IsCircuit, IsNext, is_input}
use Rattle.bit_patterns.specs.Patterns.{agrees}
use Rattle.circuit.specs.Number.{number}
use Rattle.circuit.specs.Sharing.{Made, found_or_added}
use Rattle.circuit.specs.Gates.{with_masked, fixed_nodes, differing_gate}
use Rattle.circuit.proofs.Agree.{agrees-fixed}
use Rattle.circuit.proofs.Below.{below_push}
use Rattle.circuit.proofs.Extend.{Grows-extends}
use Rattle.circuit.proofs.Tests.{IsTest, gate_test, test_as, test_next, nodes_stay}

below-cond : (n : ℕ) (t : Bool) (node : ℕ) (nodes : List ℕ) → node < n → AllByRecursion (λ k. k < n) nodes → AllByRecursion (λ k. k < n) (if t then node ∷ nodes else nodes)
below-cond n true node nodes h a = (h, a)
below-cond n false node nodes h a = a

below-fixed : (n : ℕ) (nodes : List ℕ) (v w bit : ℕ) → AllByRecursion (λ k. k < n) nodes → AllByRecursion (λ k. k < n) (fixed_nodes nodes v w bit)
below-fixed n [] v w bit a = tt
below-fixed n (node ∷ nodes) v w bit a =
    below-cond n ((bit_at w (length nodes) == 0) && (bit_at v (length nodes) == bit)) node (fixed_nodes nodes v w bit) a.0 (below-fixed n nodes v w bit a.1)

-- functions that agree below a bound
pub all_agree : (n : ℕ) (f g : ℕ → Bool) → ((k : ℕ) → k < n → f k ≡ g k) → (nodes : List ℕ) → AllByRecursion (λ k. k < n) nodes → list_all f nodes ≡ list_all g nodes
all_agree n f g same [] a = refl
all_agree n f g same (node ∷ nodes) a = ap (λ t. t && list_all f nodes) (same node a.0) ∙ ap (λ t. g node && t) (all_agree n f g same nodes a.1)

last_part : (hi ones zeros : Bool) → (ones && (not (cond hi zeros true) && true)) ≡ (hi && (ones && not zeros))
last_part true true true = refl
last_part true true false = refl
last_part true false zeros = refl
last_part false true zeros = refl
last_part false false zeros = refl

differs : (inputs values : List Bool) (t : Bool) (nodes : List ℕ) → gate_value inputs values (if t then gate.Or nodes else gate.And []) ≡ cond t (list_any (value_at values) nodes) true
differs inputs values true nodes = refl
differs inputs values false nodes = refl

differing_next : (gates : List Gate) (t : Bool) (nodes : List ℕ) → AreNodes gates nodes → IsNext gates (if t then gate.Or nodes else gate.And [])
differing_next gates true nodes h = record { parts = h; number = tt }
differing_next gates false nodes h = record { parts = tt; number = tt }

differing_other : (t : Bool) (nodes : List ℕ) → is_input (if t then gate.Or nodes else gate.And []) ≡ false
differing_other true nodes = refl
differing_other false nodes = refl

-- the nodes that have to be zero, and those that have to be one, are nodes of the circuit
pub fixed_within : (gates : List Gate) (bits : List ℕ) (v w bit : ℕ) → AreNodes gates bits → AreNodes gates (fixed_nodes bits v w bit)
fixed_within gates bits v w bit h = below-fixed (length gates) bits v w bit h

pub with_last : (gates : List Gate) (nodes : List ℕ) (node : ℕ) → AreNodes gates nodes → node < length gates → AreNodes gates (nodes ++ node ∷ [])
with_last gates nodes node h k = below_push (length gates) nodes node k h

pub masked_test : (gates : List Gate) (bits : List ℕ) (v w : ℕ) → IsCircuit gates → AreNodes gates bits →
    IsTest gates (with_masked gates bits v w) 3 (λ inputs. agrees (number (map (value gates inputs) bits)) v w)
unfolding value
masked_test gates bits v w circuit h =
    let n : ℕ = length gates in
    let hi : Bool = agrees 0 (v / 2 ^ length bits) (w / 2 ^ length bits) in
    let ones : List ℕ = fixed_nodes bits v w 1 in
    let zeros : List ℕ = fixed_nodes bits v w 0 in
    let differing : Made = found_or_added gates (differing_gate bits v w) in
    let alike : Made = found_or_added differing.gates (gate.Not differing.node) in
    let worth : List Bool → Bool = λ inputs. cond hi (list_any (value gates inputs) zeros) true in
    let one : IsTest gates differing 1 worth =
    test_as gates differing 1 _ worth (λ inputs. differs inputs (values gates inputs) hi zeros)
    (gate_test gates (differing_gate bits v w) circuit (differing_next gates hi zeros (fixed_within gates bits v w 0 h)) (differing_other hi zeros)) in
    let two : IsTest gates alike 2 (λ inputs. not (worth inputs)) =
    test_next gates differing 1 worth (λ inputs. not (worth inputs)) (gate.Not differing.node) one (record { parts = (one.within, tt); number = tt }) refl
    (λ inputs. ap not (one.value inputs)) in
    let over : AreNodes alike.gates (ones ++ alike.node ∷ []) = with_last alike.gates ones alike.node (nodes_stay gates alike.gates ones two.grown (fixed_within gates bits v w 1 h)) two.within in
    test_next gates alike 2 (λ inputs. not (worth inputs)) (λ inputs. agrees (number (map (value gates inputs) bits)) v w) (gate.And (ones ++ alike.node ∷ [])) two
    (record { parts = over; number = tt }) refl
    (λ inputs.
    let f : ℕ → Bool = value gates inputs in
    let now : ℕ → Bool = value alike.gates inputs in
    let old : (k : ℕ) → k < n → now k ≡ f k = λ k lt. (Grows-extends gates alike.gates two.grown).older inputs k lt in
    let low : 0 * 2 ^ length bits + number (map f bits) ≡ number (map f bits) = omega arith in
    list_all-append now ones (alike.node ∷ [])
    ∙ ap (λ t. t && (now alike.node && true)) (all_agree n now f old ones (below-fixed n bits v w 1 h))
    ∙ ap (λ t. list_all f ones && (t && true)) (two.value inputs)
    ∙ last_part hi (list_all f ones) (list_any f zeros)
    ∙ sym (agrees-fixed f bits 0 v w)
    ∙ ap (λ k. agrees k v w) low)

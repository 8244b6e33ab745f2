-- What the gates of a range test are worth.
use Rattle.std.proofs.Common.{◌≡◌, ℕ, ◌+◌, ◌*◌, ◌-◌, ◌^◌, ◌<◌, ◌≤◌, suc, Bool, true, false, not, ◌&&◌, ◌||◌, ◌==◌, cond, if◌then◌else◌, List, [], ◌∷◌, length, get_or, drop, map, refl, sym, ap, ap₂, subst, ◌∙◌, inl, inr, arith}
use Rattle.std.specs.Prelude.{nat_le, nat_lt}
use Rattle.std.specs.Int.{bit_at}
use Rattle.std.proofs.lemmas.List.{length-map, length-drop, drop_more}
use Rattle.std.proofs.lemmas.Bool.{cases_lt}
use Rattle.std.proofs.lemmas.Bool.Decides.{nat_tests}
use Rattle.circuit.specs.declared.gate.Gate.{Gate}
use Rattle.circuit.specs.declared.gate.Gate.TheVariants as gate
use Rattle.circuit.specs.Value.{value, values, value_at, gate_value, is_input, AreNodes, Grows, IsCircuit, IsNext}
use Rattle.circuit.specs.Number.{number}
use Rattle.circuit.specs.Sharing.{Made, found_or_added}
use Rattle.circuit.specs.Gates.{constant_gate, bit_gate, with_comparison, reached_gate, with_bound, with_range}
use Rattle.circuit.proofs.Numbers.{number-lt, bits_of, length-bits_of, number-bits_of}
use Rattle.circuit.proofs.Extend.{Grows-extends, Grows-trans}
use Rattle.circuit.proofs.Tests.{IsTest, gate_test, test_as, test_later, test_most, test_next, test_stays, node_stays, nodes_stay, map_stays}

-- above the bound, or, if inclusive, the same
abbrev pub reaches : ℕ → Bool → ℕ → Bool
reaches bound inclusive n = nat_le (bound + (if inclusive then 0 else 1)) n

-- ---- the first gate
constant_next : (gates : List Gate) (b : Bool) → IsNext gates (constant_gate b)
constant_next gates true = record { parts = tt; number = tt }
constant_next gates false = record { parts = tt; number = tt }

constant_other : (b : Bool) → is_input (constant_gate b) ≡ false
constant_other true = refl
constant_other false = refl

constant_value : (inputs vs : List Bool) (b : Bool) → gate_value inputs vs (constant_gate b) ≡ reaches 0 b 0
constant_value inputs vs true = refl
constant_value inputs vs false = refl

-- ---- a bit more
bit_next : (gates : List Gate) (t : Bool) (bit lower : ℕ) → bit < length gates → lower < length gates → IsNext gates (if t then gate.And (bit ∷ lower ∷ []) else gate.Or (bit ∷ lower ∷ []))
bit_next gates true bit lower h k = record { parts = (h, (k, tt)); number = tt }
bit_next gates false bit lower h k = record { parts = (h, (k, tt)); number = tt }

bit_other : (t : Bool) (bit lower : ℕ) → is_input (if t then gate.And (bit ∷ lower ∷ []) else gate.Or (bit ∷ lower ∷ [])) ≡ false
bit_other true bit lower = refl
bit_other false bit lower = refl

bit_value : (inputs vs : List Bool) (t : Bool) (bit lower : ℕ) →
    gate_value inputs vs (if t then gate.And (bit ∷ lower ∷ []) else gate.Or (bit ∷ lower ∷ [])) ≡ cond t (value_at vs bit && (value_at vs lower && true)) (value_at vs bit || (value_at vs lower || false))
bit_value inputs vs true bit lower = refl
bit_value inputs vs false bit lower = refl

bit_reaches : (t b : Bool) (r m p q e : ℕ) → r < q → m < p → p ≡ q → e ≤ 1 →
    cond t (b && (nat_le (r + e) m && true)) (b || (nat_le (r + e) m || false)) ≡ nat_le (((if t then q else 0) + r) + e) ((if b then p else 0) + m)
bit_reaches true true r m p q e h k same small = grind (arith, nat_tests)
bit_reaches true false r m p q e h k same small = grind (arith, nat_tests)
bit_reaches false true r m p q e h k same small = grind (arith, nat_tests)
bit_reaches false false r m p q e h k same small = grind (arith, nat_tests)

one_less : (inclusive : Bool) → (if inclusive then 0 else 1) ≤ 1
one_less true = omega arith
one_less false = omega arith

-- the chain compares the bits with the lowest bits of the bound
pub comparison_test : (gates : List Gate) (bits : List ℕ) (bound : ℕ) (inclusive : Bool) → IsCircuit gates → AreNodes gates bits →
    IsTest gates (with_comparison gates bits bound inclusive) (length bits + 1) (λ inputs. reaches (number (bits_of (length bits) bound)) inclusive (number (map (value gates inputs) bits)))
unfolding value
comparison_test gates [] bound inclusive circuit h =
    test_as gates (found_or_added gates (constant_gate inclusive)) 1 _ (λ inputs. reaches 0 inclusive 0) (λ inputs. constant_value inputs (values gates inputs) inclusive)
    (gate_test gates (constant_gate inclusive) circuit (constant_next gates inclusive) (constant_other inclusive))
comparison_test gates (bit ∷ bits) bound inclusive circuit h =
    let k : ℕ = length bits in
    let t : Bool = bit_at bound k == 1 in
    let r : ℕ = number (bits_of k bound) in
    let lower : Made = with_comparison gates bits bound inclusive in
    let m : List Bool → Bool = λ inputs. reaches r inclusive (number (map (value gates inputs) bits)) in
    let ih : IsTest gates lower (k + 1) m = comparison_test gates bits bound inclusive circuit h.1 in
    test_most gates (with_comparison gates (bit ∷ bits) bound inclusive) (k + 1 + 1) (suc k + 1) _ (omega arith)
    (test_next gates lower (k + 1) m (λ inputs. reaches (number (bits_of (suc k) bound)) inclusive (number (map (value gates inputs) (bit ∷ bits)))) (bit_gate bit lower.node (bit_at bound k)) ih
    (bit_next lower.gates t bit lower.node (node_stays gates lower.gates bit ih.grown h.0) ih.within) (bit_other t bit lower.node)
    (λ inputs.
    let low : ℕ = number (map (value gates inputs) bits) in
    let below : r < 2 ^ length (bits_of k bound) = number-lt (bits_of k bound) in
    let small : low < 2 ^ length (map (value gates inputs) bits) = number-lt (map (value gates inputs) bits) in
    let same : 2 ^ length (map (value gates inputs) bits) ≡ 2 ^ length (bits_of k bound) = ap (λ j. 2 ^ j) (length-map bits (value gates inputs) ∙ sym (length-bits_of k bound)) in
    bit_value inputs (values lower.gates inputs) t bit lower.node
    ∙ ap₂ (λ x y. cond t (x && (y && true)) (x || (y || false))) ((Grows-extends gates lower.gates ih.grown).older inputs bit h.0) (ih.value inputs)
    ∙ bit_reaches t (value gates inputs bit) r low (2 ^ length (map (value gates inputs) bits)) (2 ^ length (bits_of k bound)) (if inclusive then 0 else 1) below small same (one_less inclusive)))

-- ---- bounds above the bits
reached_next : (gates : List Gate) (t : Bool) (node : ℕ) → node < length gates → IsNext gates (if t then gate.And (node ∷ []) else gate.Or [])
reached_next gates true node h = record { parts = (h, tt); number = tt }
reached_next gates false node h = record { parts = tt; number = tt }

reached_other : (t : Bool) (node : ℕ) → is_input (if t then gate.And (node ∷ []) else gate.Or []) ≡ false
reached_other true node = refl
reached_other false node = refl

reached_value : (inputs vs : List Bool) (t : Bool) (node : ℕ) → gate_value inputs vs (if t then gate.And (node ∷ []) else gate.Or []) ≡ (t && (value_at vs node && true))
reached_value inputs vs true node = refl
reached_value inputs vs false node = refl

reached : (bound p e r n : ℕ) → n < p → (bound < p → r ≡ bound) → (nat_lt bound p && (nat_le (r + e) n && true)) ≡ nat_le (bound + e) n
reached bound p e r n small same =
    elim (cases_lt bound p) [
      | inl lt ↦ (let is : r ≡ bound = same lt in grind (arith, nat_tests))
      | inr ge ↦ grind (arith, nat_tests)
    ]

pub bound_test : (gates : List Gate) (bits : List ℕ) (bound : ℕ) (inclusive : Bool) → IsCircuit gates → AreNodes gates bits →
    IsTest gates (with_bound gates bits bound inclusive) (length bits + 2) (λ inputs. reaches bound inclusive (number (map (value gates inputs) bits)))
unfolding value
bound_test gates bits bound inclusive circuit h =
    let k : ℕ = length bits in
    let r : ℕ = number (bits_of k bound) in
    let t : Bool = nat_lt bound (2 ^ k) in
    let compared : Made = with_comparison gates bits bound inclusive in
    let m : List Bool → Bool = λ inputs. reaches r inclusive (number (map (value gates inputs) bits)) in
    let chain : IsTest gates compared (k + 1) m = comparison_test gates bits bound inclusive circuit h in
    test_most gates (with_bound gates bits bound inclusive) (k + 1 + 1) (k + 2) _ (omega arith)
    (test_next gates compared (k + 1) m (λ inputs. reaches bound inclusive (number (map (value gates inputs) bits))) (reached_gate compared.node k bound) chain
    (reached_next compared.gates t compared.node chain.within) (reached_other t compared.node)
    (λ inputs.
    let x : ℕ = number (map (value gates inputs) bits) in
    let below : x < 2 ^ length (map (value gates inputs) bits) = number-lt (map (value gates inputs) bits) in
    let small : x < 2 ^ k = (let P : ℕ → Type 0 = λ j. x < 2 ^ j in subst P (length-map bits (value gates inputs)) below) in
    reached_value inputs (values compared.gates inputs) t compared.node
    ∙ ap (λ y. t && (y && true)) (chain.value inputs)
    ∙ reached bound (2 ^ k) (if inclusive then 0 else 1) r x small (λ lt. number-bits_of k bound lt)))

-- ---- both ends
within : (lo hi n : ℕ) → (nat_le (lo + 0) n && (not (nat_le (hi + 1) n) && true)) ≡ (nat_le lo n && nat_le n hi)
within lo hi n = grind (arith, nat_tests)

pub range_test : (gates : List Gate) (bits : List ℕ) (lo hi : ℕ) → IsCircuit gates → AreNodes gates bits →
    IsTest gates (with_range gates bits lo hi) (2 * length bits + 6) (λ inputs. nat_le lo (number (map (value gates inputs) bits)) && nat_le (number (map (value gates inputs) bits)) hi)
unfolding value
range_test gates bits lo hi circuit h =
    let k : ℕ = length bits in
    let x : List Bool → ℕ = λ inputs. number (map (value gates inputs) bits) in
    let reached : Made = with_bound gates bits lo true in
    let above : Made = with_bound reached.gates bits hi false in
    let kept : Made = found_or_added above.gates (gate.Not above.node) in
    let from : IsTest gates reached (k + 2) (λ inputs. reaches lo true (x inputs)) = bound_test gates bits lo true circuit h in
    let past : IsTest reached.gates above (k + 2) (λ inputs. reaches hi false (x inputs)) =
    test_as reached.gates above (k + 2) _ (λ inputs. reaches hi false (x inputs))
    (λ inputs. ap (λ values. reaches hi false (number values)) (map_stays gates reached.gates bits inputs from.grown h))
    (bound_test reached.gates bits hi false from.circuit (nodes_stay gates reached.gates bits from.grown h)) in
    let two : IsTest gates above (k + 2 + (k + 2)) (λ inputs. reaches hi false (x inputs)) = test_later gates reached above (k + 2) (k + 2) _ _ from past in
    let three : IsTest gates kept (k + 2 + (k + 2) + 1) (λ inputs. not (reaches hi false (x inputs))) =
    test_next gates above (k + 2 + (k + 2)) _ (λ inputs. not (reaches hi false (x inputs))) (gate.Not above.node) two (record { parts = (two.within, tt); number = tt }) refl
    (λ inputs. ap not (two.value inputs)) in
    let later : Grows reached.gates kept.gates = Grows-trans reached.gates above.gates kept.gates past.grown (gate_test above.gates (gate.Not above.node) two.circuit (record { parts = (two.within, tt); number = tt }) refl).grown in
    test_most gates (with_range gates bits lo hi) (k + 2 + (k + 2) + 1 + 1) (2 * k + 6) _ (omega arith)
    (test_next gates kept (k + 2 + (k + 2) + 1) _ (λ inputs. nat_le lo (x inputs) && nat_le (x inputs) hi) (gate.And (reached.node ∷ kept.node ∷ [])) three
    (record { parts = (node_stays reached.gates kept.gates reached.node later from.within, (three.within, tt)); number = tt }) refl
    (λ inputs. ap₂ (λ y z. y && (z && true)) (test_stays gates kept.gates reached (k + 2) _ from later inputs) (three.value inputs) ∙ within lo hi (x inputs)))

-- ---- for the loop over the bits: one more, from the lowest up
pub comparison_more : (gates : List Gate) (bits : List ℕ) (place bound : ℕ) (inclusive : Bool) (bit : ℕ) (lower : Made) → place < length bits → bit ≡ get_or bits (length bits - 1 - place) bit →
    lower ≡ with_comparison gates (drop (length bits - place) bits) bound inclusive →
    found_or_added lower.gates (bit_gate bit lower.node (bit_at bound place)) ≡ with_comparison gates (drop (length bits - (place + 1)) bits) bound inclusive
comparison_more gates bits place bound inclusive bit lower h is made_is =
    let j : ℕ = length bits - (place + 1) in
    let at : length bits - 1 - place ≡ j = omega arith in
    let next : length bits - place ≡ j + 1 = omega arith in
    let rest : List ℕ = drop (j + 1) bits in
    let long : length rest ≡ place = omega (arith, length-drop (j + 1) bits) in
    let read : bit ≡ get_or bits j bit = is ∙ ap (λ i. get_or bits i bit) at in
    let split : drop j bits ≡ bit ∷ rest = drop_more bits j bit (omega arith) ∙ ap (λ b. b ∷ rest) (sym read) in
    let more : Made → ℕ → Made = λ m i. found_or_added m.gates (bit_gate bit m.node (bit_at bound i)) in
    ap (λ m. more m place) (made_is ∙ ap (λ i. with_comparison gates (drop i bits) bound inclusive) next)
    ∙ ap (more (with_comparison gates rest bound inclusive)) (sym long)
    ∙ sym (ap (λ bs. with_comparison gates bs bound inclusive) split)

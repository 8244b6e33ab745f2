-- A circuit with a gate more: what its nodes are worth.
use Rattle.std.proofs.Common.{◌≡◌, ℕ, ◌+◌, ◌<◌, ◌≤◌, Bool, false, cond, not, ◌&&◌, ◌||◌, if◌then◌else◌, get_or, take, drop, subst, List, [], ◌∷◌, ◌++◌, length, map, refl, sym, ap, ap₂, ◌∙◌, inl, inr, arith, append_assoc, append-nil, length-append}
use Rattle.std.specs.List.{fold, AllByRecursion, list_all, list_any}
use Rattle.std.proofs.lemmas.List.{length_push, get_or_append_left, get_or_push, take-append-le, take_at, take_all, take_more, take-append-drop, length-take-le}
use Rattle.std.proofs.lemmas.Bool.{cases_lt}
use Rattle.std.proofs.lemmas.List.Sums.{fold-append, sum_by-append}
use Rattle.circuit.specs.declared.gate.Gate.{Gate}
use Rattle.circuit.specs.declared.gate.Gate.TheVariants as gate
use Rattle.circuit.specs.Gates.{with_input}
use Rattle.circuit.specs.Value.{value_at, gate_value, values, value, parts_of, is_input, input_count, AreNodes, Extends, Grows, IsCircuit, IsNext}
use Rattle.circuit.proofs.Below.{below-weaker, below_push}

abbrev step : List Bool → List Bool → Gate → List Bool
step inputs so_far g = so_far ++ gate_value inputs so_far g ∷ []

-- the values so far stay in front
begins : (inputs so_far : List Bool) (gates : List Gate) → (more : List Bool) × (fold (step inputs) so_far gates ≡ so_far ++ more) × (length more ≡ length gates)
begins inputs so_far [] = ([], sym (append-nil so_far), refl)
begins inputs so_far (g ∷ gates) =
    let ih = begins inputs (step inputs so_far g) gates in
    (gate_value inputs so_far g ∷ ih.0, ih.1 ∙ append_assoc so_far (gate_value inputs so_far g ∷ []) ih.0, omega (arith, ih.2))

pub length-values : (gates : List Gate) (inputs : List Bool) → length (values gates inputs) ≡ length gates
unfolding values
length-values gates inputs = let b = begins inputs [] gates in ap length b.1 ∙ b.2

-- one gate more has one value more
pub values_push : (gates : List Gate) (g : Gate) (inputs : List Bool) → values (gates ++ g ∷ []) inputs ≡ values gates inputs ++ gate_value inputs (values gates inputs) g ∷ []
unfolding values
values_push gates g inputs = fold-append (step inputs) [] gates (g ∷ [])

pub values-append : (gates more : List Gate) (inputs : List Bool) → (rest : List Bool) × (values (gates ++ more) inputs ≡ values gates inputs ++ rest)
unfolding values
values-append gates more inputs =
    let b = begins inputs (values gates inputs) more in
    (b.0, fold-append (step inputs) [] gates more ∙ b.1)

-- the new node is worth what its gate is over the old ones
pub value_push : (gates : List Gate) (g : Gate) (inputs : List Bool) → value (gates ++ g ∷ []) inputs (length gates) ≡ gate_value inputs (values gates inputs) g
unfolding value
value_push gates g inputs =
    ap (λ vs. value_at vs (length gates)) (values_push gates g inputs)
    ∙ get_or_push (values gates inputs) (gate_value inputs (values gates inputs) g) false (length gates) (length-values gates inputs)

-- an old node keeps its value
pub value-append : (gates more : List Gate) (inputs : List Bool) (node : ℕ) → node < length gates → value (gates ++ more) inputs node ≡ value gates inputs node
unfolding value
value-append gates more inputs node h =
    let v = values-append gates more inputs in
    let e = length-values gates inputs in
    ap (λ vs. value_at vs node) v.1 ∙ get_or_append_left (values gates inputs) v.0 false node (omega arith)

pub Extends-append : (gates more : List Gate) → Extends gates (gates ++ more)
Extends-append gates more = record { longer = omega (arith, length-append gates more); older = value-append gates more }

pub Extends-refl : (gates : List Gate) → Extends gates gates
Extends-refl gates = record { longer = omega arith; older = λ inputs node h. refl }

pub Extends-push : (gates : List Gate) (g : Gate) → Extends gates (gates ++ g ∷ [])
Extends-push gates g = Extends-append gates (g ∷ [])

pub Extends-trans : (first second third : List Gate) → Extends first second → Extends second third → Extends first third
Extends-trans first second third p q = record {
  longer = omega (arith, p.longer, q.longer);
  older = λ inputs node h. q.older inputs node (omega (arith, p.longer)) ∙ p.older inputs node h;
}

-- nodes of the old circuit are nodes of the new one, worth the same
pub AreNodes-extends : (old new : List Gate) → Extends old new → (nodes : List ℕ) → AreNodes old nodes → AreNodes new nodes
AreNodes-extends old new e nodes h = below-weaker (length old) (length new) nodes e.longer h

-- and so are they with the next input behind them
pub AreNodes-input : (old new : List Gate) (nodes : List ℕ) (node : ℕ) → new ≡ with_input old → node ≡ length old → Extends old new → AreNodes old nodes → AreNodes new (nodes ++ node ∷ [])
AreNodes-input old new nodes node is next e h =
    let longer : length new ≡ length old + 1 = ap length is ∙ length_push old _ in
    below_push (length new) nodes node (omega (arith, longer, next)) (AreNodes-extends old new e nodes h)

pub map-extends : (old new : List Gate) → Extends old new → (inputs : List Bool) (nodes : List ℕ) → AreNodes old nodes → map (value new inputs) nodes ≡ map (value old inputs) nodes
map-extends old new e inputs [] h = refl
map-extends old new e inputs (node ∷ nodes) h = ap₂ ◌∷◌ (e.older inputs node h.0) (map-extends old new e inputs nodes h.1)

pub input_count-append : (gates more : List Gate) → input_count (gates ++ more) ≡ input_count gates + input_count more
input_count-append gates more = sum_by-append (λ g. cond (is_input g) 1 0) gates more

no_input : (g : Gate) → is_input g ≡ false → input_count (g ∷ []) ≡ 0
no_input g h = ap (λ t. 0 + cond t 1 0) h

pub inputs_push : (gates : List Gate) (g : Gate) → is_input g ≡ false → input_count (gates ++ g ∷ []) ≡ input_count gates
inputs_push gates g h = omega (arith, input_count-append gates (g ∷ []), no_input g h)

-- a circuit with one gate more is a circuit
pub IsCircuit-push : (gates : List Gate) (g : Gate) → IsCircuit gates → IsNext gates g → IsCircuit (gates ++ g ∷ [])
IsCircuit-push gates g c next = λ place d h.
    elim (cases_lt place (length gates)) [
      | inl lt ↦ rw (take-append-le place gates (g ∷ []) (omega arith), get_or_append_left gates (g ∷ []) d place lt) (c place d lt)
      | inr ge ↦
          let e : length gates ≡ place = omega (arith, length_push gates g) in
          rw (take_at gates (g ∷ []) place e, get_or_push gates g d place e) next
    ]

-- ---- a node's value by the values of the nodes before it
pub value_front : (gates : List Gate) (inputs : List Bool) (n node : ℕ) → n ≤ length gates → node < n → value gates inputs node ≡ value (take n gates) inputs node
value_front gates inputs n node h k =
    let m = length-take-le n gates h in
    ap (λ gs. value gs inputs node) (sym (take-append-drop n gates)) ∙ value-append (take n gates) (drop n gates) inputs node (omega arith)

pub value_of_gate : (gates : List Gate) (inputs : List Bool) (node : ℕ) (g : Gate) → node < length gates → value gates inputs node ≡ gate_value inputs (values (take node gates) inputs) (get_or gates node g)
value_of_gate gates inputs node g h =
    let m : length (take node gates) ≡ node = length-take-le node gates (omega arith) in
    let front : List Gate = take node gates ++ get_or gates node g ∷ [] in
    value_front gates inputs (node + 1) node (omega arith) (omega arith)
    ∙ ap (λ gs. value gs inputs node) (take_more gates node g h)
    ∙ ap (λ k. value front inputs k) (sym m)
    ∙ value_push (take node gates) (get_or gates node g) inputs

pub part_value : (gates : List Gate) (inputs : List Bool) (node part : ℕ) → node ≤ length gates → part < node → value_at (values (take node gates) inputs) part ≡ value gates inputs part
unfolding value
part_value gates inputs node part h k = sym (value_front gates inputs node part h k)

-- ---- gates over nodes of the same values
pub all_same : (f g : ℕ → Bool) (parts : List ℕ) → AllByRecursion (λ part. f part ≡ g part) parts → list_all f parts ≡ list_all g parts
all_same f g [] h = refl
all_same f g (part ∷ parts) h = ap (λ t. t && list_all f parts) h.0 ∙ ap (λ t. g part && t) (all_same f g parts h.1)

pub any_same : (f g : ℕ → Bool) (parts : List ℕ) → AllByRecursion (λ part. f part ≡ g part) parts → list_any f parts ≡ list_any g parts
any_same f g [] h = refl
any_same f g (part ∷ parts) h = ap (λ t. t || list_any f parts) h.0 ∙ ap (λ t. g part || t) (any_same f g parts h.1)

-- the value of a gate is that of its parts
pub gate_alike : (inputs vs ws : List Bool) (g : Gate) → AllByRecursion (λ part. value_at vs part ≡ value_at ws part) (parts_of g) → gate_value inputs vs g ≡ gate_value inputs ws g
gate_alike inputs vs ws (gate.Input number) same = refl
gate_alike inputs vs ws (gate.And parts) same = all_same (value_at vs) (value_at ws) parts same
gate_alike inputs vs ws (gate.Or parts) same = any_same (value_at vs) (value_at ws) parts same
gate_alike inputs vs ws (gate.Not part) same = ap not same.0
gate_alike inputs vs ws (gate.Ite condition a b) same =
    ap (λ t. if t then value_at vs a else value_at vs b) same.0
    ∙ ap₂ (λ t u. if value_at ws condition then t else u) same.1.0 same.1.1.0

pub all_below : (P : ℕ → Type 0) (n : ℕ) → ((k : ℕ) → k < n → P k) → (nodes : List ℕ) → AllByRecursion (λ k. k < n) nodes → AllByRecursion P nodes
all_below P n each [] below = tt
all_below P n each (node ∷ nodes) below = (each node below.0, all_below P n each nodes below.1)

-- a node of a circuit is worth what its gate is over all nodes
pub value_at_gate : (gates : List Gate) (inputs : List Bool) (node : ℕ) (g : Gate) → IsCircuit gates → node < length gates → value gates inputs node ≡ gate_value inputs (values gates inputs) (get_or gates node g)
unfolding value
value_at_gate gates inputs node g circuit within =
    let made : Gate = get_or gates node g in
    let before : length (take node gates) ≡ node = length-take-le node gates (omega arith) in
    let P : ℕ → Type 0 = λ k. AllByRecursion (λ part. part < k) (parts_of made) in
    let below : AllByRecursion (λ part. part < node) (parts_of made) = subst P before (circuit node g within).parts in
    let alike = all_below (λ part. value_at (values (take node gates) inputs) part ≡ value_at (values gates inputs) part) node (λ part lt. part_value gates inputs node part (omega arith) lt) (parts_of made) below in
    value_of_gate gates inputs node g within ∙ gate_alike inputs (values (take node gates) inputs) (values gates inputs) made alike

-- ---- circuits that grow
pub Grows-refl : (gates : List Gate) → Grows gates gates
Grows-refl gates = record { more = []; whole = sym (append-nil gates); inputs = refl }

pub Grows-trans : (first second third : List Gate) → Grows first second → Grows second third → Grows first third
Grows-trans first second third p q = record {
  more = p.more ++ q.more;
  whole = q.whole ∙ ap (λ gates. gates ++ q.more) p.whole ∙ append_assoc first p.more q.more;
  inputs = q.inputs ∙ p.inputs;
}

pub Grows-extends : (old new : List Gate) → Grows old new → Extends old new
Grows-extends old new grows = subst (Extends old) (sym grows.whole) (Extends-append old grows.more)

pub Grows-push : (gates : List Gate) (g : Gate) → is_input g ≡ false → Grows gates (gates ++ g ∷ [])
Grows-push gates g other = record { more = g ∷ []; whole = refl; inputs = inputs_push gates g other }

-- what was before is there where as many gates are kept
pub Grows-back : (old new : List Gate) (count : ℕ) → Grows old new → count ≡ length old → take count new ≡ old
Grows-back old new count grows is = rw (is, grows.whole) (take-append-le (length old) old grows.more (omega arith) ∙ take_all (length old) old (omega arith))

-- The clauses of a circuit hold of the completion of its inputs, and of nothing else.
use Rattle.std.proofs.Common.{◌≡◌, ℕ, ◌+◌, ◌<◌, ◌≤◌, Bool, true, false, ◌&&◌, ◌||◌, List, [], ◌∷◌, ◌++◌, length, map, take, drop, get_or, refl, sym, ap, ap₂, subst, ◌∙◌, ◌⊎◌, inl, inr, arith, zero, suc, append_assoc, length-append}
use Rattle.std.specs.List.{AllByRecursion}
use Rattle.std.proofs.lemmas.Bool.{and_from, and_parts, cases_lt, false≢true}
use Rattle.std.proofs.lemmas.List.{ext_get_or, get_or-take, get_or_append_left, length-take-le, length_push, take-append-drop, length-map}
use Rattle.std.proofs.lemmas.List.Folds.{list_all-append}
use Rattle.std.proofs.Math.Seq.{get_or-append_seam, take-append_seam}
use Rattle.cnf.specs.Clauses.{IsModel, all_hold, clause_holds}
use Rattle.circuit.specs.declared.gate.Gate.{Gate}
use Rattle.circuit.specs.declared.gate.Gate.TheVariants as gate
use Rattle.circuit.specs.Append.{moved, number_at}
use Rattle.circuit.specs.Clauses.{circuit_formula, clauses_of, completion, gate_clauses, other_values, root_clause, value_clauses, variables, variables_from}
use Rattle.cnf.specs.Order.{LexLe}
use Rattle.circuit.specs.Least.{Satisfies}
use Rattle.circuit.specs.Models.{BeginsLeast, HasModelsOf, HasOneCompletion, inputs_of}
use Rattle.circuit.specs.Value.{IsCircuit, IsInputBelow, gate_value, input_count, is_input, parts_of, value, value_at, values}
use Rattle.circuit.proofs.Below.{below-weaker}
use Rattle.circuit.proofs.Extend.{all_below, gate_alike, length-values, value_at_gate}
use Rattle.circuit.proofs.GateClauses.{at_map, gate_holds, is_same, moved_other, moved_value, same_is}
use Rattle.circuit.proofs.GateVariables.{both_counts, others, variables_count}
use Rattle.circuit.proofs.Settling.{input_below}

-- ---- inputs
-- an input's variable has its number
input_variable : (next : ℕ) (gates : List Gate) (place number : ℕ) (d : Gate) → place < length gates → get_or gates place d ≡ gate.Input number → number_at (variables_from next gates) place ≡ number
input_variable next [] place number d within is = absurd (omega arith)
input_variable next (gate.Input other ∷ gates) zero number d within is = cc
input_variable next (g ∷ gates) zero number d within is = absurd (false≢true (ap is_input is))
input_variable next (gate.Input other ∷ gates) (suc place) number d within is = input_variable next gates place number d (omega (arith, within)) is
input_variable next (g ∷ gates) (suc place) number d within is = input_variable (next + 1) gates place number d (omega (arith, within)) is

-- an input's number is below how many there are
input_number : (gates : List Gate) (place number : ℕ) (d : Gate) → IsCircuit gates → place < length gates → get_or gates place d ≡ gate.Input number → number < input_count gates
input_number gates place number d circuit within is = subst (IsInputBelow (input_count gates)) is (input_below gates circuit place d within)

-- ---- the clauses of all gates are those of each
each_holds : (w : List Bool) (all mine : List ℕ) (gates : List Gate) → length mine ≡ length gates → all_hold w (clauses_of all mine gates) ≡ true →
    (place : ℕ) (d : Gate) → place < length gates → all_hold w (gate_clauses (number_at mine place) (moved all (get_or gates place d))) ≡ true
each_holds w all mine [] long holds place d within = absurd (omega arith)
each_holds w all [] (g ∷ gates) long holds place d within = absurd (omega (arith, long))
each_holds w all (v ∷ mine) (g ∷ gates) long holds zero d within =
    (and_parts (all_hold w (gate_clauses v (moved all g))) (all_hold w (clauses_of all mine gates)) (sym (list_all-append (clause_holds w) (gate_clauses v (moved all g)) (clauses_of all mine gates)) ∙ holds)).0
each_holds w all (v ∷ mine) (g ∷ gates) long holds (suc place) d within =
    let rest = (and_parts (all_hold w (gate_clauses v (moved all g))) (all_hold w (clauses_of all mine gates)) (sym (list_all-append (clause_holds w) (gate_clauses v (moved all g)) (clauses_of all mine gates)) ∙ holds)).1 in
    each_holds w all mine gates (omega (arith, long)) rest place d (omega (arith, within))

all_of_each : (w : List Bool) (all mine : List ℕ) (gates : List Gate) → length mine ≡ length gates →
    ((place : ℕ) (d : Gate) → place < length gates → all_hold w (gate_clauses (number_at mine place) (moved all (get_or gates place d))) ≡ true) → all_hold w (clauses_of all mine gates) ≡ true
all_of_each w all mine [] long each = refl
all_of_each w all [] (g ∷ gates) long each = absurd (omega (arith, long))
all_of_each w all (v ∷ mine) (g ∷ gates) long each =
    list_all-append (clause_holds w) (gate_clauses v (moved all g)) (clauses_of all mine gates)
    ∙ and_from (all_hold w (gate_clauses v (moved all g))) (all_hold w (clauses_of all mine gates)) (each 0 g (omega arith)) (all_of_each w all mine gates (omega (arith, long)) (λ place d within. each (suc place) d (omega (arith, within))))

-- ---- what makes each node its gate's value is the circuit's values
abbrev nodes_of : List Gate → List Bool → List Bool
nodes_of gates w = map (value_at w) (variables gates)

length-nodes_of : (gates : List Gate) (w : List Bool) → length (nodes_of gates w) ≡ length gates
length-nodes_of gates w = length-map (variables gates) (value_at w) ∙ variables_count gates

parts_below : (gates : List Gate) (place : ℕ) (d : Gate) → IsCircuit gates → place < length gates → AllByRecursion (λ part. part < place) (parts_of (get_or gates place d))
parts_below gates place d circuit within =
    subst (λ n. AllByRecursion (λ part. part < n) (parts_of (get_or gates place d))) (length-take-le place gates (omega (arith, within))) (circuit place d within).parts

-- the values of nodes that are each the value of its gate
abbrev IsEach : List Gate → List Bool → List Bool → Type 0
IsEach gates given vs = (place : ℕ) (d : Gate) → place < length gates → value_at vs place ≡ gate_value given vs (get_or gates place d)

own_value : (gates : List Gate) (given : List Bool) (place : ℕ) (d : Gate) → IsCircuit gates → place < length gates → value_at (values gates given) place ≡ gate_value given (values gates given) (get_or gates place d)
unfolding value
own_value gates given place d circuit inside = value_at_gate gates given place d circuit inside

root_value : (gates : List Gate) (given : List Bool) (root : ℕ) → value gates given root ≡ value_at (values gates given) root
unfolding value
root_value gates given root = refl

first_same : (gates : List Gate) (given vs : List Bool) (d : Gate) → IsCircuit gates → IsEach gates given vs → (n : ℕ) → n ≤ length gates → (place : ℕ) → place < n → value_at vs place ≡ value_at (values gates given) place
first_same gates given vs d circuit is zero few place within = absurd (omega (arith, within))
first_same gates given vs d circuit is (suc n) few place within =
    elim (cases_lt place n) [
      | inl lt ↦ first_same gates given vs d circuit is n (omega (arith, few)) place lt
      | inr ge ↦
          let here : place ≡ n = omega (arith, ge, within) in
          let inside : place < length gates = omega (arith, here, few) in
          let g : Gate = get_or gates place d in
          let parts = all_below (λ k. value_at vs k ≡ value_at (values gates given) k) place (λ k lt. first_same gates given vs d circuit is n (omega (arith, few)) k (omega (arith, lt, here))) (parts_of g) (parts_below gates place d circuit inside) in
          is place d inside ∙ gate_alike given vs (values gates given) g parts ∙ sym (own_value gates given place d circuit inside)
    ]

each_is_values : (gates : List Gate) (given vs : List Bool) → IsCircuit gates → length vs ≡ length gates → IsEach gates given vs → vs ≡ values gates given
each_is_values gates given vs circuit long is =
    ext_get_or false vs (values gates given) (long ∙ sym (length-values gates given)) (λ place within. first_same gates given vs (gate.And []) circuit is (length gates) (omega arith) place (omega (arith, within, long)))

is_input_or : (g : Gate) → ((number : ℕ) × (g ≡ gate.Input number)) ⊎ (is_input g ≡ false)
is_input_or (gate.Input number) = inl (number, refl)
is_input_or g = inr refl

-- values with which the clauses hold
held_each : (gates : List Gate) (w : List Bool) → IsCircuit gates → length w ≡ length gates → all_hold w (value_clauses gates) ≡ true → IsEach gates (inputs_of gates w) (nodes_of gates w)
held_each gates w circuit long holds place d within =
    let g : Gate = get_or gates place d in
    let long_variables = variables_count gates in
    let at = at_map w (variables gates) place (omega (arith, within, long_variables)) in
    elim (is_input_or g) [
      | inl input ↦
          let below = input_number gates place input.0 d circuit within input.1 in
          let mine = input_variable (input_count gates) gates place input.0 d within input.1 in
          sym at ∙ ap (value_at w) mine ∙ sym (get_or-take (input_count gates) w input.0 false below)
          ∙ ap (gate_value (inputs_of gates w) (nodes_of gates w)) (sym input.1)
      | inr other ↦
          let one = each_holds w (variables gates) (variables gates) gates long_variables holds place d within in
          let same_value = same_is (value_at w (number_at (variables gates) place)) (gate_value [] w (moved (variables gates) g)) (sym (gate_holds w (number_at (variables gates) place) (moved (variables gates) g) (moved_other (variables gates) g other)) ∙ one) in
          let parts = below-weaker place (length (variables gates)) (parts_of g) (omega (arith, within, long_variables)) (parts_below gates place d circuit within) in
          sym at ∙ same_value ∙ moved_value (inputs_of gates w) w (variables gates) g other parts
    ]

each_held : (gates : List Gate) (given w : List Bool) → IsCircuit gates → nodes_of gates w ≡ values gates given → all_hold w (value_clauses gates) ≡ true
each_held gates given w circuit are =
    let long_variables = variables_count gates in
    all_of_each w (variables gates) (variables gates) gates long_variables (λ place d within.
    let g : Gate = get_or gates place d in
    let at = at_map w (variables gates) place (omega (arith, within, long_variables)) in
    one (is_input_or g) (number_at (variables gates) place) (below-weaker place (length (variables gates)) (parts_of g) (omega (arith, within, long_variables)) (parts_below gates place d circuit within)) (at ∙ ap (λ vs. value_at vs place) are ∙ own_value gates given place d circuit within))
  where
    one : {g : Gate} → ((number : ℕ) × (g ≡ gate.Input number)) ⊎ (is_input g ≡ false) → (variable : ℕ) → AllByRecursion (λ part. part < length (variables gates)) (parts_of g) → value_at w variable ≡ gate_value given (values gates given) g → all_hold w (gate_clauses variable (moved (variables gates) g)) ≡ true
    one {g} (inl input) variable parts is = ap (λ x. all_hold w (gate_clauses variable (moved (variables gates) x))) input.1
    one {g} (inr other) variable parts is =
        gate_holds w variable (moved (variables gates) g) (moved_other (variables gates) g other)
        ∙ is_same (value_at w variable) (gate_value [] w (moved (variables gates) g)) (is ∙ ap (λ vs. gate_value given vs g) (sym are) ∙ sym (moved_value given w (variables gates) g other parts))

-- ---- from nodes back to values
-- one value more, behind those in front
back_one : (gates : List Gate) (front : List Bool) (r : Bool) (rest : List Bool) → other_values gates (map (value_at ((front ++ r ∷ []) ++ rest)) (variables_from (length (front ++ r ∷ [])) gates)) ≡ rest →
    value_at (front ++ r ∷ rest) (length front) ∷ other_values gates (map (value_at (front ++ r ∷ rest)) (variables_from (length front + 1) gates)) ≡ r ∷ rest
back_one gates front r rest ih =
    let after = rw (append_assoc front (r ∷ []) rest, length_push front r) at ih in
    ap₂ ◌∷◌ (get_or-append_seam front r rest false) after

back : (gates : List Gate) (front rest : List Bool) → length rest ≡ others gates → other_values gates (map (value_at (front ++ rest)) (variables_from (length front) gates)) ≡ rest
back [] front [] long = refl
back [] front (r ∷ rest) long = absurd (omega (arith, long))
back (gate.Input number ∷ gates) front rest long = back gates front rest long
back (g ∷ gates) front [] long = absurd (omega (arith, long))
back (g ∷ gates) front (r ∷ rest) long = back_one gates front r rest (back gates (front ++ r ∷ []) rest (omega (arith, long)))

-- ---- and from the values of nodes to their completion
-- the values in front are those of the inputs, each at its number
abbrev HasInputs : List Bool → List Gate → List Bool → Type 0
HasInputs front gates vs = (place number : ℕ) (d : Gate) → place < length gates → get_or gates place d ≡ gate.Input number → (number < length front) × (value_at front number ≡ value_at vs place)

inputs_more : (front more : List Bool) (gates : List Gate) (vs : List Bool) → HasInputs front gates vs → HasInputs (front ++ more) gates vs
inputs_more front more gates vs has place number d within is =
    let one = has place number d within is in
    (omega (arith, one.0, length-append front more), get_or_append_left front more false number one.0 ∙ one.1)

inputs_behind : (front : List Bool) (g : Gate) (gates : List Gate) (v : Bool) (vs : List Bool) → HasInputs front (g ∷ gates) (v ∷ vs) → HasInputs front gates vs
inputs_behind front g gates v vs has place number d within is = has (suc place) number d (omega (arith, within)) is

-- one value more, behind those in front
forth_one : (gates : List Gate) (front : List Bool) (v : Bool) (vs : List Bool) → map (value_at ((front ++ v ∷ []) ++ other_values gates vs)) (variables_from (length (front ++ v ∷ [])) gates) ≡ vs →
    value_at (front ++ v ∷ other_values gates vs) (length front) ∷ map (value_at (front ++ v ∷ other_values gates vs)) (variables_from (length front + 1) gates) ≡ v ∷ vs
forth_one gates front v vs ih =
    let after = rw (append_assoc front (v ∷ []) (other_values gates vs), length_push front v) at ih in
    ap₂ ◌∷◌ (get_or-append_seam front v (other_values gates vs) false) after

forth : (gates : List Gate) (front vs : List Bool) → length vs ≡ length gates → HasInputs front gates vs → map (value_at (front ++ other_values gates vs)) (variables_from (length front) gates) ≡ vs
forth [] front [] long has = refl
forth [] front (v ∷ vs) long has = absurd (omega (arith, long))
forth (g ∷ gates) front [] long has = absurd (omega (arith, long))
forth (gate.Input number ∷ gates) front (v ∷ vs) long has =
    let first = has 0 number (gate.Input number) (omega arith) refl in
    ap₂ ◌∷◌ (get_or_append_left front (other_values gates vs) false number first.0 ∙ first.1) (forth gates front vs (omega (arith, long)) (inputs_behind front (gate.Input number) gates v vs has))
forth (g ∷ gates) front (v ∷ vs) long has =
    forth_one gates front v vs (forth gates (front ++ v ∷ []) vs (omega (arith, long)) (inputs_more front (v ∷ []) gates vs (inputs_behind front g gates v vs has)))

length-other_values : (gates : List Gate) (vs : List Bool) → length vs ≡ length gates → length (other_values gates vs) ≡ others gates
length-other_values [] [] long = refl
length-other_values [] (v ∷ vs) long = absurd (omega (arith, long))
length-other_values (g ∷ gates) [] long = absurd (omega (arith, long))
length-other_values (gate.Input number ∷ gates) (v ∷ vs) long = length-other_values gates vs (omega (arith, long))
length-other_values (g ∷ gates) (v ∷ vs) long = ap suc (length-other_values gates vs (omega (arith, long)))

length-completion : (gates : List Gate) (given : List Bool) → length given ≡ input_count gates → length (completion gates given) ≡ length gates
length-completion gates given long =
    omega (arith, length-append given (other_values gates (values gates given)), length-other_values gates (values gates given) (length-values gates given), both_counts gates, long)

completion_nodes : (gates : List Gate) (given : List Bool) → IsCircuit gates → length given ≡ input_count gates → nodes_of gates (completion gates given) ≡ values gates given
completion_nodes gates given circuit long =
    ap (λ n. map (value_at (completion gates given)) (variables_from n gates)) (sym long)
    ∙ forth gates given (values gates given) (length-values gates given) (λ place number d within is.
    let below = input_number gates place number d circuit within is in
    (omega (arith, below, long), sym (own_value gates given place d circuit within ∙ ap (gate_value given (values gates given)) is)))

-- ---- the laws
length-inputs_of : (gates : List Gate) (w : List Bool) → length w ≡ length gates → length (inputs_of gates w) ≡ input_count gates
length-inputs_of gates w long = length-take-le (input_count gates) w (omega (arith, long, both_counts gates))

held_nodes : (gates : List Gate) (w : List Bool) → IsCircuit gates → length w ≡ length gates → all_hold w (value_clauses gates) ≡ true → nodes_of gates w ≡ values gates (inputs_of gates w)
held_nodes gates w circuit long holds =
    each_is_values gates (inputs_of gates w) (nodes_of gates w) circuit (length-nodes_of gates w) (held_each gates w circuit long holds)

completed : (gates : List Gate) (w : List Bool) → IsCircuit gates → length w ≡ length gates → all_hold w (value_clauses gates) ≡ true → w ≡ completion gates (inputs_of gates w)
completed gates w circuit long holds =
    let front : List Bool = inputs_of gates w in
    let rest : List Bool = drop (input_count gates) w in
    let whole : front ++ rest ≡ w = take-append-drop (input_count gates) w in
    let front_long = length-inputs_of gates w long in
    let rest_long : length rest ≡ others gates = omega (arith, length-append front rest, ap length whole, front_long, long, both_counts gates) in
    let behind : other_values gates (nodes_of gates w) ≡ rest = rw (front_long, whole) at (back gates front rest rest_long) in
    sym whole ∙ ap (λ r. front ++ r) (sym behind) ∙ ap (λ vs. front ++ other_values gates vs) (held_nodes gates w circuit long holds)

pub one_completion : (gates : List Gate) → IsCircuit gates → HasOneCompletion gates
one_completion gates circuit w long = (
  completed gates w circuit long,
  λ is. each_held gates (inputs_of gates w) w circuit (ap (nodes_of gates) is ∙ completion_nodes gates (inputs_of gates w) circuit (length-inputs_of gates w long)),
)

root_at : (gates : List Gate) (root : ℕ) (w : List Bool) → root < length gates → value_at w (number_at (variables gates) root) ≡ value_at (nodes_of gates w) root
root_at gates root w within = at_map w (variables gates) root (omega (arith, within, variables_count gates))

with_root : (gates : List Gate) (root : ℕ) (w : List Bool) → all_hold w (value_clauses gates ++ root_clause gates root ∷ []) ≡ (all_hold w (value_clauses gates) && ((value_at w (number_at (variables gates) root) || false) && true))
with_root gates root w = list_all-append (clause_holds w) (value_clauses gates) (root_clause gates root ∷ [])

is_true : (b : Bool) → ((b || false) && true) ≡ true → b ≡ true
is_true true h = refl
is_true false h = absurd (false≢true h)

true_is : (b : Bool) → b ≡ true → ((b || false) && true) ≡ true
true_is true h = refl
true_is false h = absurd (false≢true h)

pub models_of : (gates : List Gate) (root : ℕ) → IsCircuit gates → root < length gates → HasModelsOf gates root
models_of gates root circuit within = record { model = model; begins = begins; given = given }
  where
    model : (known : List Bool) → Satisfies gates root known → IsModel (length gates) (circuit_formula gates root).clauses (completion gates known)
    model known satisfies =
        let w : List Bool = completion gates known in
        let nodes = completion_nodes gates known circuit satisfies.count in
        let at : value_at w (number_at (variables gates) root) ≡ true = root_at gates root w within ∙ ap (λ vs. value_at vs root) nodes ∙ sym (root_value gates known root) ∙ satisfies.holds in
        record {
          count = length-completion gates known satisfies.count;
          holds = with_root gates root w ∙ and_from (all_hold w (value_clauses gates)) ((value_at w (number_at (variables gates) root) || false) && true) (each_held gates known w circuit nodes) (true_is (value_at w (number_at (variables gates) root)) at);
        }

    begins : (known : List Bool) → Satisfies gates root known → inputs_of gates (completion gates known) ≡ known
    begins known satisfies = ap (λ n. take n (completion gates known)) (sym satisfies.count) ∙ take-append_seam known (other_values gates (values gates known))

    given : (w : List Bool) → IsModel (length gates) (circuit_formula gates root).clauses w → Satisfies gates root (inputs_of gates w)
    given w is =
        let parts = and_parts (all_hold w (value_clauses gates)) ((value_at w (number_at (variables gates) root) || false) && true) (sym (with_root gates root w) ∙ is.holds) in
        let at = is_true (value_at w (number_at (variables gates) root)) parts.1 in
        record {
          count = length-inputs_of gates w is.count;
          holds = root_value gates (inputs_of gates w) root ∙ ap (λ vs. value_at vs root) (sym (held_nodes gates w circuit is.count parts.0)) ∙ sym (root_at gates root w within) ∙ at;
        }

LexLe-take : (n : ℕ) (xs ys : List Bool) → LexLe xs ys → LexLe (take n xs) (take n ys)
LexLe-take zero xs ys le = tt
LexLe-take (suc n) [] ys le = tt
LexLe-take (suc n) (x ∷ xs) [] le = absurd le
LexLe-take (suc n) (false ∷ xs) (true ∷ ys) le = tt
LexLe-take (suc n) (true ∷ xs) (false ∷ ys) le = absurd le
LexLe-take (suc n) (false ∷ xs) (false ∷ ys) le = LexLe-take n xs ys le
LexLe-take (suc n) (true ∷ xs) (true ∷ ys) le = LexLe-take n xs ys le

pub begins_least : (gates : List Gate) (root : ℕ) → IsCircuit gates → root < length gates → BeginsLeast gates root
begins_least gates root circuit within w least =
    let models = models_of gates root circuit within in
    record {
      satisfies = models.given w least.model;
      least = λ other satisfies. subst (LexLe (inputs_of gates w)) (models.begins other satisfies) (LexLe-take (input_count gates) w (completion gates other) (least.least (completion gates other) (models.model other satisfies)));
    }

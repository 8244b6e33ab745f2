-- The circuit that each call leaves and the node that it answers, as a definition of what the call was given.
use Rattle.std.specs.Prelude.{ℕ, ◌/◌, ◌^◌, ◌==◌, ◌&&◌, nat_lt, Bool, true, false, List, [], ◌∷◌, ◌++◌, length, if◌then◌else◌}
use Rattle.std.specs.Int.{bit_at}
use Rattle.circuit.specs.declared.gate.Gate.{Gate}
use Rattle.circuit.specs.declared.gate.Gate.TheVariants as gate
use Rattle.circuit.specs.Value.{input_count}
use Rattle.circuit.specs.Sharing.{Made, found_or_added, MadeAll, made_all}
use Rattle.bit_patterns.specs.Patterns.{agrees}

-- one more input, numbered after the ones before it
abbrev pub with_input : List Gate → List Gate
with_input gates = gates ++ gate.Input (input_count gates) ∷ []

-- ---- a wildcard test
-- the nodes of a number, its highest bit first, that have to be this bit: the value has it, and the wildcard a 0
abbrev pub fixed_nodes : List ℕ → ℕ → ℕ → ℕ → List ℕ
fixed_nodes [] value wildcard bit = []
fixed_nodes (node ∷ nodes) value wildcard bit =
    if (bit_at wildcard (length nodes) == 0) && (bit_at value (length nodes) == bit)
    then node ∷ fixed_nodes nodes value wildcard bit
    else fixed_nodes nodes value wildcard bit

-- a gate that is true where the number has a 1 that has to be 0, or where a 1 above its highest bit is asked for
abbrev pub differing_gate : List ℕ → ℕ → ℕ → Gate
differing_gate bits value wildcard =
    if agrees 0 (value / 2 ^ length bits) (wildcard / 2 ^ length bits)
    then gate.Or (fixed_nodes bits value wildcard 0)
    else gate.And []

-- all that have to be 1 are, and none differs
abbrev pub with_masked : List Gate → List ℕ → ℕ → ℕ → Made
with_masked gates bits value wildcard =
    let differing = found_or_added gates (differing_gate bits value wildcard) in
    let alike = found_or_added differing.gates (gate.Not differing.node) in
    found_or_added alike.gates (gate.And (fixed_nodes bits value wildcard 1 ++ alike.node ∷ []))

-- ---- a range test
-- true or false everywhere
abbrev pub constant_gate : Bool → Gate
constant_gate value = if value then gate.And [] else gate.Or []

-- one bit more at the high end of a comparison: where the bound has a 1 there, the bit and what is below it have to pass;
-- where it has a 0, either is enough
abbrev pub bit_gate : ℕ → ℕ → ℕ → Gate
bit_gate bit lower digit = if digit == 1 then gate.And (bit ∷ lower ∷ []) else gate.Or (bit ∷ lower ∷ [])

-- a comparison of the number with as many of the lowest bits of the bound: true where it is above them, and, if inclusive,
-- where it is the same
abbrev pub with_comparison : List Gate → List ℕ → ℕ → Bool → Made
with_comparison gates [] bound inclusive = found_or_added gates (constant_gate inclusive)
with_comparison gates (bit ∷ bits) bound inclusive =
    let lower = with_comparison gates bits bound inclusive in
    found_or_added lower.gates (bit_gate bit lower.node (bit_at bound (length bits)))

-- what was compared, except that no number reaches a bound that is above its bits
abbrev pub reached_gate : ℕ → ℕ → ℕ → Gate
reached_gate compared count bound = if nat_lt bound (2 ^ count) then gate.And (compared ∷ []) else gate.Or []

-- a comparison of the number with the whole bound
abbrev pub with_bound : List Gate → List ℕ → ℕ → Bool → Made
with_bound gates bits bound inclusive =
    let compared = with_comparison gates bits bound inclusive in
    found_or_added compared.gates (reached_gate compared.node (length bits) bound)

-- the number reaches its low end, and is not above its high end
abbrev pub with_range : List Gate → List ℕ → ℕ → ℕ → Made
with_range gates bits lo hi =
    let reached = with_bound gates bits lo true in
    let above = with_bound reached.gates bits hi false in
    let kept = found_or_added above.gates (gate.Not above.node) in
    found_or_added kept.gates (gate.And (reached.node ∷ kept.node ∷ []))

-- ---- a test of two lists
-- true where the two nodes have the same value
abbrev pub with_pair : List Gate → ℕ → ℕ → Made
with_pair gates a b =
    let other = found_or_added gates (gate.Not b) in
    found_or_added other.gates (gate.Ite a b other.node)

-- such a node for each pair, in order
abbrev pub with_pairs : List Gate → List ℕ → List ℕ → MadeAll
with_pairs gates [] ys = made_all gates []
with_pairs gates (x ∷ xs) [] = made_all gates []
with_pairs gates (x ∷ xs) (y ∷ ys) =
    let first = with_pair gates x y in
    let others = with_pairs first.gates xs ys in
    made_all others.gates (first.node ∷ others.nodes)

-- all pairs are the same
abbrev pub with_equal : List Gate → List ℕ → List ℕ → Made
with_equal gates a b =
    let pairs = with_pairs gates a b in
    found_or_added pairs.gates (gate.And pairs.nodes)

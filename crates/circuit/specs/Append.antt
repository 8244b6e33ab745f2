-- A circuit with the gates of another one: each is found or added over the nodes that stand for its parts.
use Rattle.std.specs.Prelude.{ℕ, List, [], ◌∷◌, ◌++◌, map, fold, slice_index_or}
use Rattle.circuit.specs.declared.gate.Gate.{Gate}
use Rattle.circuit.specs.declared.gate.Gate.TheVariants as gate
use Rattle.circuit.specs.Sharing.{Made, made, found_or_added, MadeAll, made_all}

-- the number at a place of a list, and 0 past its end
abbrev pub number_at : List ℕ → ℕ → ℕ
number_at numbers place = slice_index_or numbers place 0

-- the gate over other numbers for its parts: for each node, the number at its place
abbrev pub moved : List ℕ → Gate → Gate
moved numbers (gate.Input number) = gate.Input number
moved numbers (gate.And parts) = gate.And (map (number_at numbers) parts)
moved numbers (gate.Or parts) = gate.Or (map (number_at numbers) parts)
moved numbers (gate.Not part) = gate.Not (number_at numbers part)
moved numbers (gate.Ite condition a b) = gate.Ite (number_at numbers condition) (number_at numbers a) (number_at numbers b)

-- where a gate of the other circuit stands, over the nodes for its parts; an input stands at the node that is given for it
abbrev pub with_copy : List ℕ → List Gate → List ℕ → Gate → Made
with_copy inputs gates nodes (gate.Input number) = made gates (number_at inputs number)
with_copy inputs gates nodes (gate.And parts) = found_or_added gates (moved nodes (gate.And parts))
with_copy inputs gates nodes (gate.Or parts) = found_or_added gates (moved nodes (gate.Or parts))
with_copy inputs gates nodes (gate.Not part) = found_or_added gates (moved nodes (gate.Not part))
with_copy inputs gates nodes (gate.Ite condition a b) = found_or_added gates (moved nodes (gate.Ite condition a b))

-- one gate more, and the node where it stands behind those before
abbrev pub with_next_copy : List ℕ → MadeAll → Gate → MadeAll
with_next_copy inputs so_far g =
    let copy = with_copy inputs so_far.gates so_far.nodes g in
    made_all copy.gates (so_far.nodes ++ copy.node ∷ [])

-- all gates of the other circuit in order, and for each the node where it stands
unfoldable pub with_copies : List Gate → List Gate → List ℕ → MadeAll
with_copies gates other inputs = fold (with_next_copy inputs) (made_all gates []) other

-- and of these nodes those of the roots
abbrev pub with_circuit : List Gate → List Gate → List ℕ → List ℕ → MadeAll
with_circuit gates other inputs roots =
    let copies = with_copies gates other inputs in
    made_all copies.gates (map (number_at copies.nodes) roots)

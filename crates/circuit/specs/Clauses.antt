-- A circuit as clauses. A variable for each input, in order, and then one for each other gate, in order; clauses that make
-- the variable of a gate the gate's value; and at last that the root is true.
use Rattle.std.specs.Prelude.{ℕ, ◌+◌, Bool, true, false, not, List, [], ◌∷◌, ◌++◌, length, map}
use Rattle.cnf.specs.declared.lit.Lit.{Lit}
use Rattle.cnf.specs.Clauses.{Formula}
use Rattle.circuit.specs.declared.gate.Gate.{Gate}
use Rattle.circuit.specs.declared.gate.Gate.TheVariants as gate
use Rattle.circuit.specs.Value.{input_count, values}
use Rattle.circuit.specs.Append.{moved, number_at}

-- the variables of gates, where the next variable for one that is no input is given
abbrev pub variables_from : ℕ → List Gate → List ℕ
variables_from next [] = []
variables_from next (gate.Input number ∷ gates) = number ∷ variables_from next gates
variables_from next (gate.And parts ∷ gates) = next ∷ variables_from (next + 1) gates
variables_from next (gate.Or parts ∷ gates) = next ∷ variables_from (next + 1) gates
variables_from next (gate.Not part ∷ gates) = next ∷ variables_from (next + 1) gates
variables_from next (gate.Ite condition a b ∷ gates) = next ∷ variables_from (next + 1) gates

-- the variable of each node
abbrev pub variables : List Gate → List ℕ
variables gates = variables_from (input_count gates) gates

-- a literal of a variable
abbrev pub literal : ℕ → Bool → Lit
literal variable negative = record { var = variable; negative = negative }

abbrev pub yes : ℕ → Lit
yes variable = literal variable false

abbrev pub no : ℕ → Lit
no variable = literal variable true

-- the clauses by which a variable is the value of a gate whose parts are variables
abbrev pub gate_clauses : ℕ → Gate → List (List Lit)
gate_clauses v (gate.Input number) = []
gate_clauses v (gate.And parts) = map (λ part. no v ∷ yes part ∷ []) parts ++ (yes v ∷ map no parts) ∷ []
gate_clauses v (gate.Or parts) = map (λ part. yes v ∷ no part ∷ []) parts ++ (no v ∷ map yes parts) ∷ []
gate_clauses v (gate.Not part) = (no v ∷ no part ∷ []) ∷ (yes v ∷ yes part ∷ []) ∷ []
gate_clauses v (gate.Ite condition a b) =
    (no condition ∷ no v ∷ yes a ∷ [])
    ∷ (no condition ∷ yes v ∷ no a ∷ [])
    ∷ (yes condition ∷ no v ∷ yes b ∷ [])
    ∷ (yes condition ∷ yes v ∷ no b ∷ [])
    ∷ []

-- the same of And and of Or: by which a variable is true where all of the parts are; if negative, false where all are false.
-- No public call is stated by it, nor by the next one
abbrev pub junction_clauses : ℕ → List ℕ → Bool → List (List Lit)
junction_clauses v parts negative =
    map (λ part. literal v (not negative) ∷ literal part negative ∷ []) parts
    ++ (literal v negative ∷ map (λ part. literal part (not negative)) parts) ∷ []

-- those of these gates, whose variables are `mine`, gate by gate
abbrev pub clauses_of : List ℕ → List ℕ → List Gate → List (List Lit)
clauses_of variables mine [] = []
clauses_of variables [] (g ∷ gates) = []
clauses_of variables (v ∷ mine) (g ∷ gates) = gate_clauses v (moved variables g) ++ clauses_of variables mine gates

-- the clauses that make all variables the values of their gates
abbrev pub value_clauses : List Gate → List (List Lit)
value_clauses gates = clauses_of (variables gates) (variables gates) gates

-- the literal that the root is true
abbrev pub root_clause : List Gate → ℕ → List Lit
root_clause gates root = yes (number_at (variables gates) root) ∷ []

abbrev pub circuit_formula : List Gate → ℕ → Formula
circuit_formula gates root = record { vars = length gates; clauses = value_clauses gates ++ root_clause gates root ∷ [] }

-- of a value for each gate, those of the gates that are no inputs
abbrev pub other_values : List Gate → List Bool → List Bool
other_values [] values = []
other_values (g ∷ gates) [] = []
other_values (gate.Input number ∷ gates) (v ∷ values) = other_values gates values
other_values (gate.And parts ∷ gates) (v ∷ values) = v ∷ other_values gates values
other_values (gate.Or parts ∷ gates) (v ∷ values) = v ∷ other_values gates values
other_values (gate.Not part ∷ gates) (v ∷ values) = v ∷ other_values gates values
other_values (gate.Ite condition a b ∷ gates) (v ∷ values) = v ∷ other_values gates values

-- the inputs, and behind them the values of the other gates
abbrev pub completion : List Gate → List Bool → List Bool
completion gates inputs = inputs ++ other_values gates (values gates inputs)

-- The variables of the gates of a circuit, and their clauses one gate after another.
use Rattle.std.proofs.Common.{◌≡◌, ℕ, ◌+◌, ◌<◌, ◌≤◌, suc, cond, List, [], ◌∷◌, ◌++◌, length, map, get_or, take, drop, refl, sym, ap, ap₂, subst, ◌∙◌, arith, append_assoc, append-nil}
use Rattle.std.specs.List.{All, AllByRecursion}
use Rattle.std.proofs.lemmas.List.{drop_more, drop_all, length-take-le}
use Rattle.std.proofs.lemmas.List.Elements.{All-from_recursion, All-map}
use Rattle.std.proofs.lemmas.List.Sums.{sum_by-cons}
use Rattle.cnf.specs.declared.lit.Lit.{Lit}
use Rattle.cnf.specs.Clauses.{Formula, with_clauses}
use Rattle.circuit.specs.declared.gate.Gate.{Gate}
use Rattle.circuit.specs.declared.gate.Gate.TheVariants as gate
use Rattle.circuit.specs.Value.{IsCircuit, IsInputBelow, input_count, is_input, parts_of}
use Rattle.circuit.specs.Append.{moved, number_at}
use Rattle.circuit.specs.Clauses.{variables, variables_from, gate_clauses, clauses_of}
use Rattle.circuit.proofs.Below.{below-weaker}
use Rattle.circuit.proofs.Settling.{inputs_below}

pub length-variables : (next : ℕ) (gates : List Gate) → length (variables_from next gates) ≡ length gates
length-variables next [] = refl
length-variables next (gate.Input number ∷ gates) = ap suc (length-variables next gates)
length-variables next (g ∷ gates) = ap suc (length-variables (next + 1) gates)

pub variables_count : (gates : List Gate) → length (variables gates) ≡ length gates
variables_count gates = length-variables (input_count gates) gates

-- ---- how many gates are no inputs
abbrev pub others : List Gate → ℕ
others [] = 0
others (gate.Input number ∷ gates) = others gates
others (g ∷ gates) = suc (others gates)

pub both_counts : (gates : List Gate) → input_count gates + others gates ≡ length gates
both_counts [] = refl
both_counts (gate.Input number ∷ gates) = omega (arith, both_counts gates, sum_by-cons (λ g. cond (is_input g) 1 0) (gate.Input number) gates)
both_counts (g ∷ gates) = omega (arith, both_counts gates, sum_by-cons (λ g. cond (is_input g) 1 0) g gates)

-- ---- each variable is one of as many as there are gates
below_count : (inputs count next : ℕ) (gates : List Gate) → inputs ≤ count → next + others gates ≤ count → AllByRecursion (IsInputBelow inputs) gates → AllByRecursion (λ variable. variable < count) (variables_from next gates)
below_count inputs count next [] few left below = tt
below_count inputs count next (gate.Input number ∷ gates) few left below = (omega (arith, few, below.0), below_count inputs count next gates few left below.1)
below_count inputs count next (g ∷ gates) few left below = (omega (arith, left), below_count inputs count (next + 1) gates few (omega (arith, left)) below.1)

pub variables_below : (gates : List Gate) (all : List ℕ) (count : ℕ) → IsCircuit gates → all ≡ variables gates → count ≡ length gates → All (λ variable. variable < count) all
variables_below gates all count circuit are is =
    let inputs = input_count gates in
    rw are (All-from_recursion (λ variable. variable < count) (variables gates) (below_count inputs count inputs gates (omega (arith, is, both_counts gates)) (omega (arith, is, both_counts gates)) (inputs_below gates circuit)))

pub variable_below : (gates : List Gate) (all : List ℕ) (count place : ℕ) → IsCircuit gates → all ≡ variables gates → count ≡ length gates → place < length gates → number_at all place < count
variable_below gates all count place circuit are is within =
    variables_below gates all count circuit are is place 0 (omega (arith, ap length are, variables_count gates, within))

-- and so are those of some of the gates
pub moved_below : (count : ℕ) (all places : List ℕ) → All (λ variable. variable < count) all → AllByRecursion (λ place. place < length all) places → All (λ variable. variable < count) (map (number_at all) places)
moved_below count all places below within =
    All-map (λ variable. variable < count) (number_at all) places
    (λ k d lt. below (get_or places k d) 0 (All-from_recursion (λ place. place < length all) places within k d lt))

-- each part of a gate has a variable
pub parts_numbered : (gates : List Gate) (all : List ℕ) (place : ℕ) (g : Gate) → IsCircuit gates → length all ≡ length gates → place < length gates → g ≡ get_or gates place g → AllByRecursion (λ part. part < length all) (parts_of g)
parts_numbered gates all place g circuit count lt read =
    let P : Gate → Type 0 = λ h. AllByRecursion (λ part. part < length (take place gates)) (parts_of h) in
    let before : length (take place gates) ≡ place = length-take-le place gates (omega arith) in
    below-weaker (length (take place gates)) (length all) (parts_of g) (omega arith) (subst P (sym read) (circuit place g lt).parts)

-- one gate more
pub clauses_more : (all mine : List ℕ) (gates : List Gate) (place v : ℕ) (g : Gate) → place < length gates → length mine ≡ length gates → g ≡ get_or gates place g → v ≡ get_or mine place v →
    clauses_of all (drop place mine) (drop place gates) ≡ gate_clauses v (moved all g) ++ clauses_of all (drop (place + 1) mine) (drop (place + 1) gates)
clauses_more all mine gates place v g lt count read at =
    let first : drop place mine ≡ v ∷ drop (place + 1) mine = drop_more mine place v (omega arith) ∙ ap (λ w. w ∷ drop (place + 1) mine) (sym at) in
    let one : drop place gates ≡ g ∷ drop (place + 1) gates = drop_more gates place g lt ∙ ap (λ h. h ∷ drop (place + 1) gates) (sym read) in
    ap₂ (clauses_of all) first one

pub formula_more : (f new whole : Formula) (all mine : List ℕ) (gates : List Gate) (place v : ℕ) (g : Gate) → place < length gates → length mine ≡ length gates → g ≡ get_or gates place g → v ≡ get_or mine place v →
    new ≡ with_clauses f (gate_clauses v (moved all g)) → with_clauses f (clauses_of all (drop place mine) (drop place gates)) ≡ whole → with_clauses new (clauses_of all (drop (place + 1) mine) (drop (place + 1) gates)) ≡ whole
formula_more f new whole all mine gates place v g lt count read at more so_far =
    let rest : List (List Lit) = clauses_of all (drop (place + 1) mine) (drop (place + 1) gates) in
    let formula : List (List Lit) → Formula = λ clauses. record { vars = f.vars; clauses = clauses } in
    ap (λ formula. with_clauses formula rest) more ∙ ap formula (append_assoc f.clauses (gate_clauses v (moved all g)) rest)
    ∙ sym (ap (with_clauses f) (clauses_more all mine gates place v g lt count read at)) ∙ so_far

-- all gates
pub formula_all : (f whole : Formula) (all mine : List ℕ) (gates : List Gate) (place : ℕ) → length gates ≤ place → with_clauses f (clauses_of all (drop place mine) (drop place gates)) ≡ whole → f ≡ whole
formula_all f whole all mine gates place past so_far =
    let formula : List (List Lit) → Formula = λ clauses. record { vars = f.vars; clauses = clauses } in
    sym (ap formula (append-nil f.clauses)) ∙ sym (ap (λ left. with_clauses f (clauses_of all (drop place mine) left)) (drop_all place gates past)) ∙ so_far

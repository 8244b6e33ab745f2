use Rattle.std.proofs.Common.{◌≡◌, ◌∷◌, [], false, length, get_or, ap, ap₂, sym, ◌∙◌, arith}
use Rattle.std.proofs.lemmas.Grind.{get_or_default_zero}
use Rattle.cnf.specs.Clauses.{with_clauses}
use Rattle.circuit.specs.Append.{moved}
use Rattle.circuit.specs.Clauses.{variables, value_clauses, gate_clauses, circuit_formula, literal}
use Rattle.circuit.proofs.GateVariables.{variables_count, variable_below, variables_below, parts_numbered, formula_more, formula_all}
use Rattle.circuit.proofs.encoding.to_cnf.Goals as goal

pub loop-place-init : goal.loop-place-init
loop-place-init c = ap (λ formula. with_clauses formula (value_clauses c.gates-gates.result.now)) c.new-formula.ensures

pub bounds-variables-place : goal.bounds-variables-place
bounds-variables-place c = omega (arith, ap length (c.as_slice-variables.ensures.value ∙ c.in_ok-all.ensures), variables_count c.gates-gates.result.now, c.loop-place-test.true)

pub bounds-variables-place-2 : goal.bounds-variables-place-2
bounds-variables-place-2 c =
    omega (arith, ap length (c.as_slice-variables.ensures.value ∙ c.in_ok-all.ensures), variables_count c.gates-gates.result.now, ap length c.gates-gates.ensures.gates, c.requires, c.place.ensures)

pub push_gate-requires-clause-parts : goal.push_gate-requires-clause-parts
push_gate-requires-clause-parts c =
    let gates = c.gates-gates.result.now in
    let many : length c.as_slice-variables.result.now ≡ length gates = ap length (c.as_slice-variables.ensures.value ∙ c.in_ok-all.ensures) ∙ variables_count gates in
    parts_numbered gates c.as_slice-variables.result.now c.loop-place.place c.index-gates-place.result (rw c.gates-gates.ensures.gates c.gates-gates.ensures.circuit) many c.loop-place-test.true c.index-gates-place.is

pub push_gate-requires-clause-variables : goal.push_gate-requires-clause-variables
push_gate-requires-clause-variables c =
    variables_below c.gates-gates.result.now c.as_slice-variables.result.now c.loop-place.formula.vars (rw c.gates-gates.ensures.gates c.gates-gates.ensures.circuit)
    (c.as_slice-variables.ensures.value ∙ c.in_ok-all.ensures) (ap (λ formula. formula.vars) c.loop-place.invariant)

pub push_gate-requires-clause-variable : goal.push_gate-requires-clause-variable
push_gate-requires-clause-variable c =
    variable_below c.gates-gates.result.now c.as_slice-variables.result.now c.loop-place.formula.vars c.loop-place.place (rw c.gates-gates.ensures.gates c.gates-gates.ensures.circuit)
    (c.as_slice-variables.ensures.value ∙ c.in_ok-all.ensures) (ap (λ formula. formula.vars) c.loop-place.invariant) c.loop-place-test.true

pub push-requires : goal.push-requires
push-requires c =
    let root = c.place.result in
    let below =
    variable_below c.gates-gates.result.now c.as_slice-variables.result.now c.loop-place.formula.vars root (rw c.gates-gates.ensures.gates c.gates-gates.ensures.circuit)
    (c.as_slice-variables.ensures.value ∙ c.in_ok-all.ensures) (ap (λ formula. formula.vars) c.loop-place.invariant) (omega (arith, ap length c.gates-gates.ensures.gates, c.requires, c.place.ensures)) in
    rw c.new-root.ensures (below, tt)

pub loop-place-preserved : goal.loop-place-preserved
loop-place-preserved c =
    let gates = c.gates-gates.result.now in
    let all = c.as_slice-variables.result.now in
    let place = c.loop-place.place in
    let g = c.index-gates-place.result in
    let is : all ≡ variables gates = c.as_slice-variables.ensures.value ∙ c.in_ok-all.ensures in
    formula_more c.loop-place.formula c.push_gate.new.formula _ (variables gates) (variables gates) gates place (get_or (variables gates) place 0) g c.loop-place-test.true (variables_count gates) c.index-gates-place.is
    (sym (get_or_default_zero (variables gates) place (get_or (variables gates) place 0) (omega (arith, variables_count gates, c.loop-place-test.true))))
    (c.in_ok-push_gate.ensures ∙ ap (λ vs. with_clauses c.loop-place.formula (gate_clauses (get_or vs place 0) (moved vs g))) is) c.loop-place.invariant

pub returns-clause-formula : goal.returns-clause-formula
returns-clause-formula c =
    let gates = c.gates-gates.result.now in
    let all = c.as_slice-variables.result.now in
    let is : all ≡ variables gates = c.as_slice-variables.ensures.value ∙ c.in_ok-all.ensures in
    let whole = formula_all c.loop-place.formula _ (variables gates) (variables gates) gates c.loop-place.place c.loop-place-test.false c.loop-place.invariant in
    c.in_ok-push.ensures
    ∙ ap (λ formula. with_clauses formula ((c.new-root.result ∷ []) ∷ [])) whole
    ∙ ap (λ l. with_clauses (record { vars = length gates; clauses = value_clauses gates }) ((l ∷ []) ∷ [])) (c.new-root.ensures ∙ ap₂ (λ vs place. literal (get_or vs place 0) false) is c.place.ensures)
    ∙ ap (λ gates. circuit_formula gates c.args.root) c.gates-gates.ensures.gates

use Rattle.std.proofs.Common.{◌≡◌, ◌+◌, length, ap, subst, sym, ◌∙◌}
use Rattle.circuit.specs.declared.gate.Gate.TheVariants as gate
use Rattle.circuit.specs.Value.{IsCircuit, Extends, input_count}
use Rattle.circuit.specs.Gates.{with_input}
use Rattle.circuit.proofs.Extend.{Extends-push, value_push}
use Rattle.circuit.proofs.Sharing.{input_pushed, input_circuit}
use Rattle.circuit.proofs.circuit.Circuit.input.Goals as goal

pub returns-clause-circuit : goal.returns-clause-circuit
returns-clause-circuit c =
    input_pushed c.self.inside.gates.keys c.insert.new.self.keys c.self.inside.inputs c.self.invariant.1 c.self.invariant.0 c.in_ok-insert.ensures.keys
    ∙ ap with_input c.self.view_is

pub invariant_of-self-2 : goal.invariant_of-self-2
invariant_of-self-2 c =
    let was : IsCircuit c.args.self.now = subst IsCircuit c.self.view_is c.self.invariant.1 in
    let next = input_circuit c.args.self.now was in
    rw (returns-clause-circuit c) (ap (λ n. n + 1) (c.self.invariant.0 ∙ ap input_count c.self.view_is) ∙ next.0, next.1)

pub returns-clause-value : goal.returns-clause-value
returns-clause-value c = λ inputs.
    let node : c.at-node.result ≡ length c.args.self.now = c.at-node.ensures ∙ c.len.ensures.len ∙ ap length c.self.view_is in
    rw (returns-clause-circuit c, node) (value_push c.args.self.now (gate.Input (input_count c.args.self.now)) inputs)

pub returns-clause-older : goal.returns-clause-older
returns-clause-older c = subst (Extends c.args.self.now) (sym (returns-clause-circuit c)) (Extends-push c.args.self.now _)

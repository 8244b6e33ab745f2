use Rattle.std.proofs.Common.{◌≡◌, List, ap, subst, sym, ◌∙◌}
use Rattle.circuit.specs.declared.gate.Gate.{Gate}
use Rattle.circuit.specs.Value.{IsCircuit, input_count, values, gate_value}
use Rattle.circuit.specs.Sharing.{made, found_or_added}
use Rattle.circuit.proofs.Extend.{Grows-extends}
use Rattle.circuit.proofs.Sharing.{in_table}
use Rattle.circuit.proofs.Tests.{IsTest, gate_test, test_at}
use Rattle.circuit.proofs.circuit.Circuit.find_or_add.Goals as goal

pub returns-clause-made : goal.returns-clause-made
returns-clause-made c =
    let P : List Gate → Type 0 = λ gates. made c.insert_full.new.self.keys c.in_ok-place.place ≡ found_or_added gates c.args.gate in
    ap (made c.insert_full.new.self.keys) c.at.ensures
    ∙ subst P c.self.view_is (in_table c.self.inside.gates.keys c.insert_full.new.self.keys c.args.gate c.in_ok-place.place c.in_ok-place.ensures.keys c.in_ok-place.ensures.index)

test : (c : goal.After-at) → IsTest c.args.self.now (made c.insert_full.new.self.keys c.at.result) 1 (λ inputs. gate_value inputs (values c.args.self.now inputs) c.args.gate)
test c =
    let circuit : IsCircuit c.args.self.now = subst IsCircuit c.self.view_is c.self.invariant.1 in
    test_at c.args.self.now (made c.insert_full.new.self.keys c.at.result) (found_or_added c.args.self.now c.args.gate) 1 _ (returns-clause-made c)
    (gate_test c.args.self.now c.args.gate circuit c.requires.next c.requires.kind)

pub invariant_of-self-2 : goal.invariant_of-self-2
invariant_of-self-2 c = (c.self.invariant.0 ∙ ap input_count c.self.view_is ∙ sym (test c).grown.inputs, (test c).circuit)

pub returns-clause-value : goal.returns-clause-value
returns-clause-value c = (test c).value

pub returns-clause-older : goal.returns-clause-older
returns-clause-older c = Grows-extends _ _ (test c).grown

use Rattle.std.proofs.Common.{◌≡◌, ap, sym, subst, ◌∙◌}
use Rattle.circuit.specs.Append.{with_circuit}
use Rattle.circuit.specs.Value.{IsCircuit}
use Rattle.circuit.specs.Sharing.{made_all}
use Rattle.circuit.proofs.Copies.{IsAppended, is_appended}
use Rattle.circuit.proofs.Extend.{Grows-extends}
use Rattle.circuit.proofs.circuit.Circuit.append.Goals as goal
use Rattle.circuit.proofs.circuit.Circuit.append.Goals.{In-Ok}

appended : (c : In-Ok) → IsAppended c.args.self.now c.args.other.now c.args.inputs.now c.args.roots.now (made_all c.add_circuit.new.circuit c.in-Ok.nodes.items)
appended c =
    let old = c.args.self.now in
    let inputs = c.args.inputs.now in
    let roots = c.args.roots.now in
    let is : IsCircuit c.args.other.now = c.gates.ensures.circuit in
    let whole : made_all c.add_circuit.new.circuit c.in-Ok.nodes.items ≡ with_circuit old c.args.other.now inputs roots = c.in-Ok.ensures.made ∙ ap (λ gates. with_circuit old gates inputs roots) c.gates.ensures.gates in
    subst (IsAppended old c.args.other.now inputs roots) (sym whole) (is_appended old c.args.other.now inputs roots c.nodes-before.ensures.circuit is c.requires.inputs c.requires.count c.requires.roots)

pub returns-in-Ok-clause-within : goal.returns-in-Ok-clause-within
returns-in-Ok-clause-within c = (appended c).within

pub returns-in-Ok-clause-value : goal.returns-in-Ok-clause-value
returns-in-Ok-clause-value c = (appended c).value

pub returns-in-Ok-clause-few : goal.returns-in-Ok-clause-few
returns-in-Ok-clause-few c = (appended c).few

pub returns-in-Ok-clause-older : goal.returns-in-Ok-clause-older
returns-in-Ok-clause-older c = Grows-extends _ _ c.in-Ok.ensures.grown

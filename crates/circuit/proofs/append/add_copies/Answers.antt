use Rattle.std.proofs.Common.{◌∙◌, ◌<◌, ℕ, length, ap, sym, subst, take, arith}
use Rattle.std.specs.List.{AllByRecursion}
use Rattle.circuit.specs.Append.{with_copies}
use Rattle.circuit.specs.Sharing.{made_all}
use Rattle.circuit.specs.Value.{AreNodes, parts_of}
use Rattle.circuit.proofs.Copies.{AreCopies, copies_so_far, copies_more, input_so_far, parts_so_far}
use Rattle.circuit.proofs.Extend.{Grows-refl, Grows-trans}
use Rattle.circuit.proofs.Tests.{nodes_stay}
use Rattle.circuit.proofs.append.add_copies.Goals as goal
use Rattle.circuit.proofs.append.add_copies.Goals.{After-as_slice}

copies : (c : After-as_slice) → AreCopies c.args.circuit.now (take c.loop-gate.gate-index c.args.gates.now) c.args.inputs.now (made_all c.loop-gate.circuit c.loop-gate.nodes.items)
copies c =
    copies_so_far c.args.circuit.now c.args.gates.now c.args.inputs.now c.requires.circuit c.requires.other c.requires.inputs c.requires.count
    c.loop-gate.gate-index c.loop-gate.circuit c.loop-gate.nodes.items (omega (arith, c.loop-gate-test.true)) c.loop-gate.invariant.made

pub loop-gate-init : goal.loop-gate-init
unfolding with_copies
loop-gate-init c = record { made = ap (made_all c.args.circuit.now) c.in_ok-nodes.ensures.items; grown = Grows-refl c.args.circuit.now }

pub add_copy-requires-clause-inputs : goal.add_copy-requires-clause-inputs
add_copy-requires-clause-inputs c = nodes_stay _ _ c.args.inputs.now c.loop-gate.invariant.grown c.requires.inputs

pub add_copy-requires-clause-nodes : goal.add_copy-requires-clause-nodes
add_copy-requires-clause-nodes c = subst (AreNodes c.loop-gate.circuit) (sym c.as_slice.ensures.value) (copies c).within

pub add_copy-requires-clause-input : goal.add_copy-requires-clause-input
add_copy-requires-clause-input c = input_so_far c.args.gates.now (length c.args.inputs.now) c.loop-gate.gate-index c.gate-item.result c.requires.other c.requires.count c.loop-gate-test.true c.gate-item.is

pub add_copy-requires-clause-parts : goal.add_copy-requires-clause-parts
add_copy-requires-clause-parts c =
    let parts = parts_so_far c.args.circuit.now c.args.gates.now c.args.inputs.now c.loop-gate.gate-index c.gate-item.result (made_all c.loop-gate.circuit c.loop-gate.nodes.items) c.requires.other c.loop-gate-test.true c.gate-item.is (copies c) in
    subst (λ nodes. AllByRecursion (λ (part : ℕ). part < length nodes) (parts_of c.gate-item.result)) (sym c.as_slice.ensures.value) parts

pub loop-gate-preserved : goal.loop-gate-preserved
loop-gate-preserved c =
    record {
      made =
          ap (made_all c.add_copy.new.circuit) c.in_ok-push.ensures.items
          ∙ copies_more c.args.circuit.now c.args.gates.now c.args.inputs.now c.loop-gate.gate-index c.gate-item.result c.loop-gate.circuit c.add_copy.new.circuit c.loop-gate.nodes.items c.in_ok-node.node
          c.loop-gate-test.true c.gate-item.is c.loop-gate.invariant.made (rw (← c.as_slice.ensures.value) c.in_ok-node.ensures.made);
      grown = Grows-trans _ _ _ c.loop-gate.invariant.grown c.in_ok-node.ensures.grown;
    }

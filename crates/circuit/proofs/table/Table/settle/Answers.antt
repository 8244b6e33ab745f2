use Rattle.std.proofs.Common.{arith, subst, ℕ, List, [], drop, get_or, ◌≡◌, ◌∙◌, ap, not}
use Rattle.std.proofs.lemmas.List.{drop_all}
use Rattle.circuit.specs.Settled.{settled, settled_at, settled_value}
use Rattle.circuit.proofs.Unsettled.{IsUnderWay, all_right, all_unsettled, is_settled, next_left, next_value, parts_within, some_or_none, stays_unsettled, under_way}
use Rattle.circuit.proofs.table.Table.settle.Goals.{then-is_none+in_ok-push, else-is_none}
use Rattle.circuit.proofs.table.Table.settle.Goals as goal

pub loop-place-init : goal.loop-place-init
loop-place-init c =
    let values = c.in_ok-values.ensures.items ∙ c.as_slice.ensures.value in
    rw (values, c.new-unsettled.ensures.items, c.as_slice-place-items.ensures.value)
    (under_way c.args.gates.now c.args.chosen.now c.self.inside.values.items c.self.inside.unsettled.items c.self.invariant (rw c.self.view_is c.requires.kept))

pub settle_gate-value-requires : goal.settle_gate-value-requires
settle_gate-value-requires c =
    let places : List ℕ = c.as_slice-place-items.result.now in
    let so_far = subst (IsUnderWay c.args.gates.now c.args.chosen.now c.loop-place.values.items c.loop-place.unsettled.items) (next_left places c.loop-place.place-index c.loop-place-test.true) c.loop-place.invariant in
    rw c.as_slice-in-loop-place.ensures.value (parts_within _ _ _ _ _ _ c.index-gates-place.result c.requires.circuit so_far c.index-gates-place.is)

pub loop-place-preserved : goal.loop-place-preserved
loop-place-preserved c =
    let gates = c.args.gates.now in
    let chosen = c.args.chosen.now in
    let places : List ℕ = c.as_slice-place-items.result.now in
    let place : ℕ = get_or places c.loop-place.place-index 0 in
    let so_far = subst (IsUnderWay gates chosen c.loop-place.values.items c.loop-place.unsettled.items) (next_left places c.loop-place.place-index c.loop-place-test.true) c.loop-place.invariant in
    let value : c.settle_gate-value.result ≡ settled_at (settled gates chosen) place =
    c.settle_gate-value.ensures
    ∙ ap (λ table. settled_value chosen table c.index-gates-place.result) c.as_slice-in-loop-place.ensures.value
    ∙ next_value _ _ _ _ _ place c.index-gates-place.result c.requires.circuit so_far c.index-gates-place.is in
    elim c.if-is_none.branch [
      | then-is_none+in_ok-push w ↦ rw (w.unsettled-is, w.in_ok-push.ensures.items) (stays_unsettled _ _ _ _ _ place _ so_far value)
      | else-is_none w ↦ rw w.unsettled-is (is_settled _ _ _ _ _ place _ so_far value (some_or_none c.settle_gate-value.result (c.is_none.ensures ∙ ap not w.if-is_none.false)))
    ]

pub invariant_of-result : goal.invariant_of-result
invariant_of-result c =
    let places : List ℕ = c.as_slice-place-items.result.now in
    let none : drop c.loop-place.place-index places ≡ [] = drop_all c.loop-place.place-index places (omega arith) in
    all_unsettled c.args.gates.now c.args.chosen.now c.loop-place.values.items c.loop-place.unsettled.items
    (subst (IsUnderWay c.args.gates.now c.args.chosen.now c.loop-place.values.items c.loop-place.unsettled.items) none c.loop-place.invariant)

pub returns : goal.returns
returns c =
    let places : List ℕ = c.as_slice-place-items.result.now in
    let none : drop c.loop-place.place-index places ≡ [] = drop_all c.loop-place.place-index places (omega arith) in
    all_right c.args.gates.now c.args.chosen.now c.loop-place.values.items c.loop-place.unsettled.items
    (subst (IsUnderWay c.args.gates.now c.args.chosen.now c.loop-place.values.items c.loop-place.unsettled.items) none c.loop-place.invariant)

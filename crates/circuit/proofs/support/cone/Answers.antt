use Rattle.std.proofs.Common.{◌≡◌, ℕ, ◌+◌, ◌-◌, Bool, List, length, arith, rules, sym, ap, subst, ◌∙◌}
use Rattle.circuit.specs.Value.{parts_of}
use Rattle.circuit.specs.Support.{with_marks}
use Rattle.circuit.proofs.Depends.{IsClosedFrom, closed_marked, lent_whole, length-with_marks}
use Rattle.circuit.proofs.support.cone.Goals as goal

pub loop-place-preserved-then-is_none : goal.loop-place-preserved-then-is_none
loop-place-preserved-then-is_none c =
    let before : List Bool = c.loop-place.marked.items in
    let place : ℕ = c.loop-place.place - 1 in
    let next : place + 1 ≡ c.loop-place.place = omega arith in
    let P : ℕ → Type 0 = λ k. IsClosedFrom c.args.gates.now c.args.root c.args.table.now k before in
    let closed = closed_marked c.args.gates.now c.args.root c.args.table.now place c.index-gates-place.result before c.requires.circuit (omega arith) c.index-gates-place.is (subst P (sym next) c.loop-place.invariant) in
    let marks : c.mark_parts.new.marked ≡ with_marks before (parts_of c.index-gates-place.result) = c.mark_parts.ensures ∙ ap (λ m. with_marks m (parts_of c.index-gates-place.result)) c.as_mut_slice.ensures.value in
    let long : length c.mark_parts.new.marked ≡ length before = ap length marks ∙ length-with_marks (parts_of c.index-gates-place.result) before in
    let Q : List Bool → Type 0 = IsClosedFrom c.args.gates.now c.args.root c.args.table.now place in
    subst Q (sym (lent_whole before c.mark_parts.new.marked c.loop-place.marked.len long (search rules) ∙ marks)) closed

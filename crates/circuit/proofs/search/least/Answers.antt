use Rattle.std.proofs.Common.{◌≡◌, length, ap, ◌∙◌}
use Rattle.std.proofs.lemmas.Bool.{MatchBool-at_false}
use Rattle.circuit.specs.Search.{IsLeastAfter, NoneAfter}
use Rattle.circuit.proofs.Found.{none_at_all}
use Rattle.circuit.proofs.Settling.{length-settled, nothing_settled}
use Rattle.circuit.proofs.search.least.Goals as goal

pub settle-requires-clause-kept : goal.settle-requires-clause-kept
settle-requires-clause-kept c =
    rw c.in_ok-blank.ensures (nothing_settled c.gates-gates.result.now c.as_slice.result.now)

pub support-requires-clause-count : goal.support-requires-clause-count
support-requires-clause-count c = ap length (c.values.ensures ∙ c.in_ok-table.ensures) ∙ length-settled c.gates-gates.result.now c.as_slice.result.now

pub returns-else-branch-clause-none : goal.returns-else-branch-clause-none
returns-else-branch-clause-none c =
    let gates = c.gates-gates.result.now in
    let root = c.place-2.result in
    let start = c.new-inputs.result.items in
    let none = MatchBool-at_false (IsLeastAfter gates root start c.decide.new.chosen.items) (NoneAfter gates root start × (c.decide.new.chosen.items ≡ start)) c.if-branch.false c.in_ok-decide.ensures in
    none_at_all c.args.circuit.now gates c.args.root root start c.gates-gates.ensures.gates c.place-2.ensures c.new-inputs.ensures.items none.0

use Rattle.std.proofs.Common.{rules, ◌≡◌, ◌<◌, ◌++◌, ◌∷◌, [], true, false, length, Some, None, vec_len, arith, ap, ◌∙◌, refl}
use Rattle.std.proofs.lemmas.Bool.{MatchBool-at_false}
use Rattle.circuit.specs.Value.{input_count, value_at}
use Rattle.circuit.specs.Search.{IsLeastAfter, NoneAfter}
use Rattle.circuit.proofs.Settling.{length-settled, settled_stays, some_left}
use Rattle.circuit.proofs.Found.{at_root, filled, none_settled, none_unneeded, second_choice, support_after}
use Rattle.circuit.proofs.search.Search.+search.Goals as goal

pub choose-settle-requires-clause-kept : goal.choose-settle-requires-clause-kept
choose-settle-requires-clause-kept t c =
    rw (c.requires.table, c.as_slice.ensures.value, c.in_ok-push.ensures.items) (settled_stays c.args.self.now.gates.now c.args.chosen.now.items (c.args.value ∷ []))

pub decide-bounds : goal.decide-bounds
decide-bounds t c =
    let long = ap length c.requires.table ∙ length-settled c.args.self.now.gates.now c.args.chosen.now.items in
    omega (arith, c.requires.question.within, ap length c.values.ensures)

pub decide-split-requires : goal.decide-split-requires
decide-split-requires t c =
    let few : length c.args.chosen.now.items < input_count c.args.self.now.gates.now =
    some_left c.args.self.now.gates.now c.args.chosen.now.items c.args.self.now.root c.requires.question.circuit c.requires.few
    (at_root c.args.self.now.gates.now c.args.self.now.root c.args.chosen.now.items c.values.result.now _ _ (c.values.ensures ∙ c.requires.table) c.requires.question.within c.in-None.is) in
    search rules

pub decide-returns-in_ok-resize-in-Some-true : goal.decide-returns-in_ok-resize-in-Some-true
decide-returns-in_ok-resize-in-Some-true t c =
    let gates = c.args.self.now.gates.now in
    let root = c.args.self.now.root in
    let chosen = c.args.chosen.now.items in
    let value : c.in-Some-true.field-0 ≡ true = search rules in
    let settled_true = at_root gates root chosen c.values.result.now None (Some true) (c.values.ensures ∙ c.requires.table) c.requires.question.within (c.in-Some-true.is ∙ ap (λ v. Some v) value) in
    let long : vec_len c.args.chosen.now ≡ length chosen = search rules in
    filled gates root (vec_len c.args.chosen.now) c.args.self.now.support.now chosen c.resize.new.self.items c.requires.question.support settled_true c.requires.few long c.in_ok-resize-in-Some-true.ensures.items

pub decide-returns-in-Some-false : goal.decide-returns-in-Some-false
decide-returns-in-Some-false t c =
    let gates = c.args.self.now.gates.now in
    let root = c.args.self.now.root in
    let chosen = c.args.chosen.now.items in
    let value : c.in-Some-false.field-0 ≡ false = search rules in
    (none_settled gates root chosen (at_root gates root chosen c.values.result.now None (Some false) (c.values.ensures ∙ c.requires.table) c.requires.question.within (c.in-Some-false.is ∙ ap (λ v. Some v) value)), refl)

pub split-returns-then-not-self-number : goal.split-returns-then-not-self-number
split-returns-then-not-self-number t c =
    let gates = c.args.self.now.gates.now in
    let root = c.args.self.now.root in
    let chosen = c.args.chosen.now.items in
    let support = c.args.self.now.support.now in
    let none = MatchBool-at_false (IsLeastAfter gates root (chosen ++ false ∷ []) c.choose.new.chosen.items) (NoneAfter gates root (chosen ++ false ∷ []) × (c.choose.new.chosen.items ≡ chosen)) c.if-branch.false c.in_ok-choose.ensures in
    let long : c.len-number.result ≡ length c.choose.new.chosen.items = search rules in
    none_unneeded gates root c.len-number.result support chosen c.choose.new.chosen.items (support_after gates root support chosen c.requires.question.support) long c.if-not-self-number.true c.requires.few none.0 none.1

pub split-support-requires-clause-count : goal.split-support-requires-clause-count
split-support-requires-clause-count t c = ap length (c.values.ensures ∙ c.requires.table) ∙ length-settled c.args.self.now.gates.now c.args.chosen.now.items

pub split-returns-then-not-index : goal.split-returns-then-not-index
split-returns-then-not-index t c =
    let gates = c.args.self.now.gates.now in
    let root = c.args.self.now.root in
    let chosen = c.args.chosen.now.items in
    let support = c.in_ok-support.support.items in
    let none = MatchBool-at_false (IsLeastAfter gates root (chosen ++ false ∷ []) c.choose.new.chosen.items) (NoneAfter gates root (chosen ++ false ∷ []) × (c.choose.new.chosen.items ≡ chosen)) c.if-branch.false c.in_ok-choose.ensures in
    let long : c.len-number.result ≡ length c.choose.new.chosen.items = search rules in
    let off : value_at support c.len-number.result ≡ false = search rules in
    none_unneeded gates root c.len-number.result support chosen c.choose.new.chosen.items (c.in_ok-support.ensures chosen (c.values.ensures ∙ c.requires.table)) long off c.requires.few none.0 none.1

pub split-returns : goal.split-returns
split-returns t c =
    let gates = c.args.self.now.gates.now in
    let root = c.args.self.now.root in
    let chosen = c.args.chosen.now.items in
    let none = MatchBool-at_false (IsLeastAfter gates root (chosen ++ false ∷ []) c.choose.new.chosen.items) (NoneAfter gates root (chosen ++ false ∷ []) × (c.choose.new.chosen.items ≡ chosen)) c.if-branch.false c.in_ok-choose.ensures in
    second_choice gates root chosen c.choose.new.chosen.items _ c.choose-2.result c.requires.few none.0 none.1 c.choose-2.ensures

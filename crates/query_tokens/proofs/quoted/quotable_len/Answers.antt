use Rattle.std.proofs.Common.{◌≡◌, false, get_or, sym, arith, rules}
use Rattle.std.proofs.lemmas.List.Sums.{prefix_len_is}
use Rattle.query_tokens.specs.Tokens.{is_quotable}
use Rattle.query_tokens.proofs.quoted.quotable_len.Goals as goal

pub returns-then-not-is_quotable-clause-value : goal.returns-then-not-is_quotable-clause-value
returns-then-not-is_quotable-clause-value c =
    let stops : is_quotable (get_or c.args.text.now c.loop-i.i 0) ≡ false = search rules in
    sym (prefix_len_is is_quotable c.args.text.now c.loop-i.i 0 (omega arith) c.loop-i.invariant (λ _. stops))

pub returns-clause-value : goal.returns-clause-value
returns-clause-value c =
    sym (prefix_len_is is_quotable c.args.text.now _ 0 (omega arith) (λ k inside. c.loop-i.invariant k (omega arith)) (λ past. absurd (omega arith)))

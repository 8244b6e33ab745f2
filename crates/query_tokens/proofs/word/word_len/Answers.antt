use Rattle.std.proofs.Common.{◌≡◌, false, get_or, sym, arith, rules}
use Rattle.std.proofs.lemmas.List.Sums.{prefix_len_is}
use Rattle.query_tokens.specs.Words.{continues_word}
use Rattle.query_tokens.proofs.word.word_len.Goals as goal

pub returns-then-not-continues_word-clause-value : goal.returns-then-not-continues_word-clause-value
returns-then-not-continues_word-clause-value c =
    let stops : continues_word (get_or c.args.text.now c.loop-i.i 0) ≡ false = search rules in
    sym (prefix_len_is continues_word c.args.text.now c.loop-i.i 0 (omega arith) c.loop-i.invariant (λ _. stops))

pub returns-clause-value : goal.returns-clause-value
returns-clause-value c =
    sym (prefix_len_is continues_word c.args.text.now _ 0 (omega arith) (λ k inside. c.loop-i.invariant k (omega arith)) (λ past. absurd (omega arith)))

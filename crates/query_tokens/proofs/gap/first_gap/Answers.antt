use Rattle.std.proofs.Common.{rules, arith}
use Rattle.std.proofs.lemmas.List.{take_rest}
use Rattle.query_tokens.proofs.Beginnings.{blank_begins, comment_begins}
use Rattle.query_tokens.proofs.gap.first_gap.Goals as goal

pub returns-then-is_blank-clause-found : goal.returns-then-is_blank-clause-found
returns-then-is_blank-clause-found c =
    blank_begins c.args.text.now _ _ (search rules) (search rules) c.split_at.ensures.front c.split_at.ensures.back

pub returns-in-45-clause-found : goal.returns-in-45-clause-found
returns-in-45-clause-found c =
    comment_begins c.args.text.now _ _ _ c.line_len.result (omega arith) (search rules) (search rules) (take_rest c.args.text.now 2) c.line_len.ensures.value c.split_at-in-45.ensures.front c.split_at-in-45.ensures.back

use Rattle.std.proofs.Common.{arith}
use Rattle.ios_lex.proofs.Occurrences.{occurs_at, not_before, occurs_nowhere}
use Rattle.ios_lex.proofs.banner.occurs.Goals as goal

pub returns-then-starts_with-clause-found : goal.returns-then-starts_with-clause-found
returns-then-starts_with-clause-found c _ =
    occurs_at c.args.text.now c.args.delimiter.now c.loop-i.i c.starts_with.result c.starts_with.ensures.value c.if-starts_with.true

pub loop-i-preserved : goal.loop-i-preserved
loop-i-preserved c =
    not_before c.args.text.now c.args.delimiter.now c.loop-i.i c.starts_with.result c.starts_with.ensures.value c.if-starts_with.false c.loop-i.invariant

pub returns-clause-none : goal.returns-clause-none
returns-clause-none c _ =
    occurs_nowhere c.args.text.now c.args.delimiter.now c.requires (λ k back within. c.loop-i.invariant k back (omega arith))

use Rattle.std.proofs.Common.{◌+◌, length, ap, arith}
use Rattle.dimacs.proofs.LineTexts.{next_line}
use Rattle.dimacs.proofs.words.Words.next.Goals as goal

pub loop-text-preserved : goal.loop-text-preserved
loop-text-preserved c =
    let none = rw c.in_default.is at c.first_word.ensures.none in
    let found = c.in-Some-first_line.ensures.found in
    let shorter = c.in-Some-first_line.ensures.shorter in
    record {
      words = next_line c.loop-text.self-inside.number _ _ _ _ _ _ none found c.loop-text.invariant.words (c.without_comment-self-inside.ensures (c.loop-text.self-inside.number + 1));
      end = omega (arith, ap length found, c.loop-text.invariant.end);
      small = omega (arith, shorter);
    }
